use Rattle.std.proofs.Common.{◌≡◌, ◌++◌, ◌∷◌, [], true, cond, not, is_ok, map, string_bytes, sym, ap, subst, ◌∙◌}
use Rattle.std.specs.List.{list_any}
use Rattle.std.specs.Prelude.{bytes_eq}
use Rattle.filetree.specs.Agreement.{FailedAt}
use Rattle.filetree.proofs.CachedAnswers.{map_end, one_more}
use Rattle.module_explain.specs.FailedPaths.{is_kept}
use Rattle.module_explain.proofs.failures.WatchedTree.keep.Goals as goal

pub returns-else-is_err-clause-failed : goal.returns-else-is_err-clause-failed
returns-else-is_err-clause-failed g c =
    let old = c.args.self.now.failed.items in
    let path = string_bytes c.in-Ok.kept in
    let ok : is_ok c.push.result ≡ true = c.is_err.ensures.negation ∙ ap not c.if-is_err.false in
    let items : c.push.new.self.items ≡ old ++ c.in-Ok.kept ∷ [] = c.push.ensures.items ∙ ap (λ b. cond b (old ++ c.in-Ok.kept ∷ []) old) ok in
    let texts : map string_bytes c.push.new.self.items ≡ map string_bytes old ++ path ∷ [] = ap (map string_bytes) items ∙ map_end string_bytes old c.in-Ok.kept in
    (path, subst (λ xs. FailedAt (is_kept c.args.self.now.failed) (λ p. list_any (bytes_eq p) xs) path) (sym texts) (one_more (map string_bytes old) path), c.in-Ok.ensures.ok)
