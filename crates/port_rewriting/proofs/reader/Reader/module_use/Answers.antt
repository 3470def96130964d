use Rattle.std.proofs.Common.{map, codes, inl, inr}
use Rattle.port_rewriting.specs.Asking.{AreAdded, AreUsed, first, p, prepend, old_prepend, a, append, old_append}
use Rattle.port_rewriting.specs.RecordViews.{shown}
use Rattle.modulefile.specs.declared.records.PathEdit.TheVariants.{Front, Back}
use Rattle.port_rewriting.proofs.Asking.{asked, begins, behind}
use Rattle.port_rewriting.proofs.reader.Reader.module_use.Goals as goal

pub returns-in_default-option : goal.returns-in_default-option
returns-in_default-option c =
    asked (AreAdded Front (map shown c.args.words.now)) (AreUsed (map shown c.args.words.now)) c.searching-in_default-option.result
    (λ rs h. first h) c.searching-in_default-option.ensures

pub returns-in-text-2 : goal.returns-in-text-2
returns-in-text-2 c =
    asked (AreAdded Front (map shown (behind c.args.words.now))) (AreUsed (map shown c.args.words.now)) c.searching-in-text-2.result
    (λ rs h. elim c.in-text-2.is [
      | inl e ↦ begins (λ ws. AreUsed ws rs) c.args.words.now (codes "-p") c.in-len1-up.len_at_least e (p h)
      | inr f ↦ elim f [
        | inl e ↦ begins (λ ws. AreUsed ws rs) c.args.words.now (codes "--prepend") c.in-len1-up.len_at_least e (prepend h)
        | inr e ↦ begins (λ ws. AreUsed ws rs) c.args.words.now (codes "-prepend") c.in-len1-up.len_at_least e (old_prepend h)
      ]
    ]) c.searching-in-text-2.ensures

pub returns-in-text : goal.returns-in-text
returns-in-text c =
    asked (AreAdded Back (map shown (behind c.args.words.now))) (AreUsed (map shown c.args.words.now)) c.searching.result
    (λ rs h. elim c.in-text.is [
      | inl e ↦ begins (λ ws. AreUsed ws rs) c.args.words.now (codes "-a") c.in-len1-up.len_at_least e (a h)
      | inr f ↦ elim f [
        | inl e ↦ begins (λ ws. AreUsed ws rs) c.args.words.now (codes "--append") c.in-len1-up.len_at_least e (append h)
        | inr e ↦ begins (λ ws. AreUsed ws rs) c.args.words.now (codes "-append") c.in-len1-up.len_at_least e (old_append h)
      ]
    ]) c.searching.ensures
