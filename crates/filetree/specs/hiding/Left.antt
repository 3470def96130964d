-- That some pair of maps may be left, for the contract of a tree (own).
use Rattle.std.proofs.Common.{inl}
use Rattle.std.specs.Prelude.{◌≡◌, refl, Bool, true, false, List, Option, None, if◌then◌else◌}
use Rattle.message.specs.Messages.{Text}
use Rattle.filetree.specs.Agreement.{Files, Listings}
use Rattle.filetree.specs.hiding.Hidden.{AreApart, MayAgreeWithout, MayBeLeft, is_among, without}

-- what a map has at a path may be left where what is hidden is taken away
pub left_of : {X : Type 0} (hidden seen : Bool) (there : Option X) → (hidden ≡ true → seen ≡ false)
    → MayBeLeft hidden seen there (if hidden then None else there)
left_of true seen there apart = refl
left_of false true there apart = refl
left_of false false there apart = inl refl

-- a pair that agrees, without the hidden paths, is one that may be left
pub left_without : (hidden seen : List Text) (agrees : Files → Listings → Type 0) → AreApart hidden seen
    → (files : Files) (folders : Listings) → agrees files folders
    → MayAgreeWithout hidden seen agrees (without hidden files) (without hidden folders)
left_without hidden seen agrees apart files folders a = record {
  all_files = files;
  all_folders = folders;
  agree = a;
  files_left = λ path. left_of (is_among hidden path) (is_among seen path) (files path) (apart path);
  folders_left = λ path. left_of (is_among hidden path) (is_among seen path) (folders path) (apart path);
}
