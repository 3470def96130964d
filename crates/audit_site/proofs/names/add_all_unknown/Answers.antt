use Rattle.std.proofs.Common.{List, ◌∷◌, [], String, Global, map, string_bytes, refl}
use Rattle.envvars.specs.Texts.{Text}
use Rattle.audit_laws.proofs.site.DirectorySetLemmas.{dirs_turn}
use Rattle.audit_site.specs.Mentions.{known_in, unknown_among}
use Rattle.audit_site.proofs.OnceEach.{names_parts}
use Rattle.audit_site.proofs.names.add_all_unknown.Goals as goal

pub loop-name-preserved : goal.loop-name-preserved
loop-name-preserved c =
    let known = known_in c.args.meaning.now.keys in
    let of : List (String Global) → List Text = λ xs. unknown_among known (map string_bytes xs) in
    let x = c.name-item.result in
    dirs_turn of (names_parts known) (map string_bytes c.args.unknown.now.keys) (map string_bytes c.loop-name.unknown.keys) (map string_bytes c.add_unknown.new.unknown.keys)
    (of (x ∷ [])) c.args.names.now c.loop-name.name-index x x c.loop-name-test.true c.name-item.is refl c.loop-name.invariant
    (rw c.as_str.ensures.value at c.in_ok-add_unknown.ensures)
