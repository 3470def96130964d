use Rattle.std.proofs.Common.{map, codes, inl, inr}
use Rattle.port_rewriting.specs.Asking.{AreNeeded, AreSomeNeeded, IsOneNeeded, depends_on, prereq_all, prereq_any, family, set_alias, guard}
use Rattle.port_rewriting.specs.AskingViews.{Asks, IsOfFamily, IsOfFolder, StandsFor}
use Rattle.port_rewriting.specs.RecordViews.{shown}
use Rattle.port_rewriting.proofs.Asking.{asked, begins, behind}
use Rattle.port_rewriting.proofs.reader.Reader.form.Goals as goal

pub returns-in-text : goal.returns-in-text
returns-in-text c =
    asked (AreNeeded (StandsFor c.args.self.now.given.site) (map shown (behind c.args.words.now)))
    (Asks c.args.self.now.given (map shown c.args.words.now)) c.asking.result
    (λ rs h. elim c.in-text.is [
      | inl e ↦ begins (λ ws. Asks c.args.self.now.given ws rs) c.args.words.now (codes "depends-on") c.in-len1-up.len_at_least e (depends_on h)
      | inr e ↦ begins (λ ws. Asks c.args.self.now.given ws rs) c.args.words.now (codes "prereq-all") c.in-len1-up.len_at_least e (prereq_all h)
    ]) c.asking.ensures

pub returns-in-text-2 : goal.returns-in-text-2
returns-in-text-2 c =
    asked (IsOneNeeded (StandsFor c.args.self.now.given.site) (map shown (behind c.args.words.now)))
    (Asks c.args.self.now.given (map shown c.args.words.now)) c.asking_one.result
    (λ rs h. begins (λ ws. Asks c.args.self.now.given ws rs) c.args.words.now (codes "prereq-any") c.in-len1-up.len_at_least c.in-text-2.is (prereq_any h))
    c.asking_one.ensures

pub returns-in-family : goal.returns-in-family
returns-in-family c =
    asked (IsOfFamily c.args.self.now.given.site c.args.self.now.given.file (map shown (behind c.args.words.now)))
    (Asks c.args.self.now.given (map shown c.args.words.now)) c.family.result
    (λ rs h. begins (λ ws. Asks c.args.self.now.given ws rs) c.args.words.now (codes "family") c.in-len1-up.len_at_least c.in-family.is (family h))
    c.family.ensures

pub returns-in-text-3 : goal.returns-in-text-3
returns-in-text-3 c =
    asked (IsOfFolder c.args.self.now.given.scripts_folder) (Asks c.args.self.now.given (map shown c.args.words.now)) c.alias.result
    (λ rs h. begins (λ ws. Asks c.args.self.now.given ws rs) c.args.words.now (codes "set-alias") c.in-len1-up.len_at_least c.in-text-3.is (set_alias h))
    c.alias.ensures

pub returns-in-if : goal.returns-in-if
returns-in-if c =
    asked (AreSomeNeeded (StandsFor c.args.self.now.given.site)) (Asks c.args.self.now.given (map shown c.args.words.now)) c.guard.result
    (λ rs h. begins (λ ws. Asks c.args.self.now.given ws rs) c.args.words.now (codes "if") c.in-len1-up.len_at_least c.in-if.is (guard h))
    c.guard.ensures
