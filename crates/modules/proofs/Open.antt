-- One name that opens every definition that a module's place or colour goes by, for the tests that compute.
use Rattle.basics.specs.Lists
use Rattle.basics.specs.Bits
use Rattle.tables.specs.Tables
use Rattle.words.specs.Words
use Rattle.modules.specs.Modules

unfoldable pub every : Unit {0}
unfolding Lists.from Lists.up_to Lists.keep Lists.joined Lists.place_in Lists.same Bits.low_first Tables.totals Tables.centre_rows Tables.total Tables.centres Tables.surplus Words.reduced Words.format_word Words.format_bits Words.version_word Modules.finder Modules.finder_colour Modules.timing Modules.alignment_centres Modules.nearest Modules.alignment Modules.format_one Modules.format_two Modules.version_one Modules.version_two Modules.format_places Modules.version_places Modules.copy_at Modules.word_module Modules.module_of Modules.is_data Modules.pair_column Modules.walk Modules.step Modules.met Modules.order Modules.mask_numbers Modules.flips
every = tt
