use Rattle.std.proofs.Common.{Bor, List, [], ◌∷◌, ℕ, get_or, map, string_bytes, refl}
use Rattle.std.proofs.lemmas.List.{map-append}
use Rattle.envvars.specs.Texts.{Text}
use Rattle.audit_laws.proofs.site.DirectorySetLemmas.{dirs_turn}
use Rattle.audit_laws.proofs.site.directory_set.push_directories.Goals as goal

nothing : Bor (List ℕ)
nothing = record { ref_ptr = (0, 0); now = [] }

pub loop-dir-preserved : goal.loop-dir-preserved
unfolding nothing
loop-dir-preserved c =
    let of : List (Bor Text) → List Text = map (λ (dir : Bor Text). dir.now) in
    let x = get_or c.deref-dir-items.result.now c.loop-dir.dir-index nothing in
    dirs_turn of (map-append (λ (dir : Bor Text). dir.now)) (map string_bytes c.args.dirs.now.keys)
    (map string_bytes c.loop-dir.dirs.keys) (map string_bytes c.push_directory.new.dirs.keys) (of (x ∷ []))
    c.deref-dir-items.result.now c.loop-dir.dir-index nothing x c.loop-dir-test.true refl refl c.loop-dir.invariant c.in_ok-push_directory.ensures
