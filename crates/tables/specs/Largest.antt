-- The numbers that the code's constants are held to.
use Rattle.tables.specs.Tables.{last_version, most_side, most_modules, most_codewords, most_data, most_payload, most_list}
use Rattle.tables.specs.declared.Largest.{Largest}

abbrev pub largest_of : Largest
largest_of =
    record { version = last_version; side = most_side; modules = most_modules; codewords = most_codewords; held = most_data; payload = most_payload; list = most_list }
