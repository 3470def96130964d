-- The messages of errors of values that catch(n) catches. The texts are Tcl's or own.
use Rattle.std.specs.Prelude.{◌++◌, codes}
use Rattle.tcltext.specs.chars.Runs.{Text}

unfoldable pub divide_by_zero : Text
divide_by_zero = codes "divide by zero"

unfoldable pub negative_shift : Text
negative_shift = codes "negative shift argument"

unfoldable pub not_a_list : Text
not_a_list = codes "not a list"

-- a text where an operator wants a number
unfoldable pub not_numeric : Text → Text
not_numeric symbol = codes "can't use non-numeric text as operand of \"" ++ (symbol ++ codes "\"")

unfoldable pub not_a_boolean : Text → Text
not_a_boolean word = codes "expected boolean value but got \"" ++ (word ++ codes "\"")

unfoldable pub not_a_whole_number : Text → Text
not_a_whole_number word = codes "expected whole number but got \"" ++ (word ++ codes "\"")

unfoldable pub bad_index : Text → Text
bad_index word = codes "bad index \"" ++ (word ++ codes "\"")

unfoldable pub wrong_words : Text → Text
wrong_words name = codes "wrong # args for \"" ++ (name ++ codes "\"")

-- a text in double quotes
abbrev pub in_quotes : Text → Text
in_quotes t = codes "\"" ++ (t ++ codes "\"")
