-- Worked rows of the definitions.
use Rattle.std.proofs.Common.{◌≡◌, refl, [], ◌∷◌, ◌++◌, Some, None}
use Rattle.std.specs.Prelude.{codes}
use Rattle.std.specs.Fmt.{digits}
use Rattle.envstate.specs.paths.Paths.{drop, add_all}
use Rattle.envstate.specs.paths.PathTexts.{state_of, elements_text, counters_as_text}
use Rattle.envstate.specs.declared.paths.adding.End.TheVariants.{Front, Back}

pub one : counters_as_text (drop (state_of 58 (Some (codes "/a:/b:/a")) (Some (codes "/a:3:/b:2:/a:9:x"))) (codes "/a")) ≡ Some (codes "/a:2:/b:2")
unfolding digits
one = refl

pub two : elements_text 58 (drop (state_of 58 (Some (codes "/a:/b:/a")) (Some (codes "/a:0:/a:01:/b:2"))) (codes "/a")).elements ≡ Some (codes "/b")
unfolding digits
two = refl

pub three : elements_text 58 (add_all (state_of 58 None None) (codes "/p" ∷ codes "/q" ∷ []) Front).elements ≡ Some (codes "/p:/q")
three = refl

pub four : elements_text 58 (add_all (state_of 58 (Some []) None) ([] ∷ []) Back).elements ≡ Some []
four = refl

pub five : counters_as_text (add_all (state_of 58 (Some []) None) ([] ∷ []) Back) ≡ Some (codes ":1")
unfolding digits
five = refl

-- a:b;c at the semicolon, then a:b once more at the back: its colon is escaped in the counters
pub six : counters_as_text (add_all (state_of 59 (Some (codes "a:b;c")) None) (codes "a:b" ∷ []) Back) ≡ Some (codes "a" ++ 92 ∷ codes ":b:2")
unfolding digits
six = refl

-- a counter text from before the escapes is read as it was meant, and written with them
pub seven : counters_as_text (add_all (state_of 58 (Some (codes "x" ++ 92 ∷ codes "y"))
    (Some (codes "x" ++ 92 ∷ codes "y:2"))) ((codes "x" ++ 92 ∷ codes "y") ∷ []) Front) ≡ Some
    (codes "x" ++ 92 ∷ 92 ∷ codes "y:3")
unfolding digits
seven = refl

pub eight : counters_as_text (state_of 58 (Some (codes "/a")) (Some (codes "/a:4294967296"))) ≡ None
unfolding digits
eight = refl
