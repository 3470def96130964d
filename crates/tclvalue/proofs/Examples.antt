-- Worked values, by computation alone.
use Rattle.std.specs.Prelude.{◌≡◌, refl, codes, [], ◌∷◌, Ok, Err, Some, None}
use lib.Utf8.{encode}
use Rattle.std.specs.Str.{chars}
use Rattle.std.specs.Fmt.{digits}
use Rattle.tcltext.specs.chars.Numerals.{numeral}
use Rattle.tcltext.specs.list.ListReading.{list_of, list_at, element_at, piece_of, piece_at}
use Rattle.tclvalue.specs.operators.Faults.{error, unsupported, value_too_long}
use Rattle.tclvalue.specs.operators.Messages.{wrong_words, bad_index}
use Rattle.tclvalue.specs.Characters.{white_space, split_space}
use Rattle.tclvalue.specs.Commands.{command_value}

list_written : command_value (codes "list" ∷ codes "a" ∷ codes "" ∷ codes "b c" ∷ codes "d}" ∷ []) 100 ≡ Ok (Some (codes "a {} {b c} d\\}"))
unfolding numeral digits chars encode list_of list_at element_at piece_of piece_at white_space split_space
list_written = refl

mapped_once : command_value (codes "string" ∷ codes "map" ∷ codes "a b b c" ∷ codes "abba" ∷ []) 100 ≡ Ok (Some (codes "bccb"))
unfolding numeral digits chars encode list_of list_at element_at piece_of piece_at white_space split_space
mapped_once = refl

last_but_one : command_value (codes "lindex" ∷ codes "a b c" ∷ codes "end-1" ∷ []) 100 ≡ Ok (Some (codes "b"))
unfolding numeral digits chars encode list_of list_at element_at piece_of piece_at white_space split_space
last_but_one = refl

concatenated_words : command_value (codes "concat" ∷ codes " a " ∷ codes "" ∷ codes "b  c" ∷ []) 100 ≡ Ok (Some (codes "a b  c"))
unfolding numeral digits chars encode list_of list_at element_at piece_of piece_at white_space split_space
concatenated_words = refl

first_found : command_value (codes "string" ∷ codes "first" ∷ codes "ss" ∷ codes "mississippi" ∷ []) 100 ≡ Ok (Some (codes "2"))
unfolding numeral digits chars encode list_of list_at element_at piece_of piece_at white_space split_space
first_found = refl

last_found : command_value (codes "string" ∷ codes "last" ∷ codes "ss" ∷ codes "mississippi" ∷ []) 100 ≡ Ok (Some (codes "5"))
unfolding numeral digits chars encode list_of list_at element_at piece_of piece_at white_space split_space
last_found = refl

matched : command_value (codes "string" ∷ codes "match" ∷ codes "*.[ch]" ∷ codes "x.c" ∷ []) 100 ≡ Ok (Some (codes "1"))
unfolding numeral digits chars encode list_of list_at element_at piece_of piece_at white_space split_space
matched = refl

split_apart : command_value (codes "split" ∷ codes "a,b,,c" ∷ codes "," ∷ []) 100 ≡ Ok (Some (codes "a b {} c"))
unfolding numeral digits chars encode list_of list_at element_at piece_of piece_at white_space split_space
split_apart = refl

other_command : command_value (codes "set" ∷ codes "a" ∷ []) 100 ≡ Ok None
unfolding numeral digits chars encode list_of list_at element_at piece_of piece_at white_space split_space
other_command = refl

unsupported_option : command_value (codes "string" ∷ codes "equal" ∷ codes "-nocase" ∷ codes "a" ∷ codes "b" ∷ []) 100 ≡ Err (unsupported (codes "string -nocase"))
unfolding numeral digits chars encode list_of list_at element_at piece_of piece_at white_space split_space
unsupported_option = refl

option_compared : command_value (codes "string" ∷ codes "equal" ∷ codes "-nocase" ∷ codes "a" ∷ []) 100 ≡ Ok (Some (codes "0"))
unfolding numeral digits chars encode list_of list_at element_at piece_of piece_at white_space split_space
option_compared = refl

wrong_number : command_value (codes "llength" ∷ []) 100 ≡ Err (error (wrong_words (codes "llength")))
unfolding numeral digits chars encode list_of list_at element_at piece_of piece_at white_space split_space
wrong_number = refl

bad_end : command_value (codes "lindex" ∷ codes "a b c" ∷ codes "end- 1" ∷ []) 100 ≡ Err (error (bad_index (codes "end- 1")))
unfolding numeral digits chars encode list_of list_at element_at piece_of piece_at white_space split_space
bad_end = refl

too_long_value : command_value (codes "string" ∷ codes "repeat" ∷ codes "ab" ∷ codes "3" ∷ []) 5 ≡ Err value_too_long
unfolding numeral digits
too_long_value = refl
