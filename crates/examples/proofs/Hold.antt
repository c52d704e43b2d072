-- The examples hold: antt computes both sides.
use mathlib.Core.Path.{refl}
use Rattle.basics.specs.Lists
use Rattle.basics.specs.Sums
use Rattle.basics.specs.Bits
use Rattle.tables.specs.Tables
use Rattle.field.specs.Field
use Rattle.code.specs.Code
use Rattle.words.specs.Words
use Rattle.stream.specs.Stream
use Rattle.penalty.specs.Penalty
use Rattle.writer.specs.Writer
use Rattle.examples.specs.Examples.{ExamplesHold, examples, refused_digits, line_of, pad_pairs, a_data}

pub examples_hold : ExamplesHold
unfolding examples refused_digits line_of pad_pairs a_data Lists.from Lists.up_to Lists.keep Lists.joined Lists.any Lists.each
    Lists.same Lists.place_in Sums.sum Sums.tally Bits.bits Bits.byte_bits Bits.number_after Bits.number Bits.bytes
    Bits.low_first Tables.totals Tables.check_rows Tables.block_rows Tables.centre_rows Tables.total Tables.check_count
    Tables.block_count Tables.centres Tables.data_count Tables.short_length Tables.short_blocks Tables.block_data
    Tables.block_start Tables.block_length Tables.room Tables.count_width Tables.surplus Field.dbl_n Field.mul_bits Field.mul_n
    Field.pow_n Field.even_powers Field.inv_n Code.value_after Code.value Code.plus Code.generator Code.divided Code.lower
    Code.checks Code.apart_at Code.syndromes_of Code.unreadable Code.differing Words.reduced Words.format_word Words.format_bits
    Words.level_of Words.mask_of Words.version_word Words.Near Stream.alphabet Stream.code_of Stream.character Stream.known
    Stream.in_mode Stream.numeric_bits Stream.alphanumeric_bits Stream.body Stream.body_width Stream.segments
    Stream.segments_width Stream.lawful_list Stream.counts Stream.lawful_characters Stream.fits Stream.pads Stream.whole_bytes
    Stream.padded Stream.data_codewords Penalty.rows Penalty.columns Penalty.run Penalty.runs_after Penalty.runs
    Penalty.patterns Penalty.finder_like Penalty.windows Penalty.lines Penalty.squares Penalty.dark Penalty.share
    Penalty.score Penalty.least_after Penalty.least_place Writer.in_range Writer.taken Writer.refusal Writer.codewords
    Writer.chosen Writer.draw_at Writer.draw
examples_hold = (refl, refl)
