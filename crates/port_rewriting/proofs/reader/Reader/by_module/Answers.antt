use Rattle.std.proofs.Common.{◌∷◌, map, codes, inl, inr}
use Rattle.port_rewriting.specs.Asking.{AreNeeded, AreUsed, load, add, try_load, using}
use Rattle.port_rewriting.specs.AskingViews.{Asks, StandsFor}
use Rattle.port_rewriting.specs.RecordViews.{shown}
use Rattle.port_rewriting.proofs.Asking.{asked, begins, behind}
use Rattle.port_rewriting.proofs.reader.Reader.by_module.Goals as goal

pub returns-in-load : goal.returns-in-load
returns-in-load c =
    asked (AreNeeded (StandsFor c.args.self.now.given.site) (map shown (behind c.args.words.now)))
    (Asks c.args.self.now.given (codes "module" ∷ map shown c.args.words.now)) c.asking.result
    (λ rs h. elim c.in-load.is [
      | inl e ↦ begins (λ ws. Asks c.args.self.now.given (codes "module" ∷ ws) rs) c.args.words.now (codes "load") c.in-len1-up.len_at_least e (load h)
      | inr e ↦ begins (λ ws. Asks c.args.self.now.given (codes "module" ∷ ws) rs) c.args.words.now (codes "add") c.in-len1-up.len_at_least e (add h)
    ]) c.asking.ensures

pub returns-in-text : goal.returns-in-text
returns-in-text c =
    asked (AreNeeded (StandsFor c.args.self.now.given.site) (map shown (behind c.args.words.now)))
    (Asks c.args.self.now.given (codes "module" ∷ map shown c.args.words.now)) c.asking-in-text.result
    (λ rs h. begins (λ ws. Asks c.args.self.now.given (codes "module" ∷ ws) rs) c.args.words.now (codes "try-load") c.in-len1-up.len_at_least
    c.in-text.is (try_load h)) c.asking-in-text.ensures

pub returns-in-use : goal.returns-in-use
returns-in-use c =
    asked (AreUsed (map shown (behind c.args.words.now))) (Asks c.args.self.now.given (codes "module" ∷ map shown c.args.words.now)) c.module_use.result
    (λ rs h. begins (λ ws. Asks c.args.self.now.given (codes "module" ∷ ws) rs) c.args.words.now (codes "use") c.in-len1-up.len_at_least
    c.in-use.is (using h)) c.module_use.ensures
