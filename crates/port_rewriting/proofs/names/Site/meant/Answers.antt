use Rattle.std.proofs.Common.{◌≡◌, ◌+◌, ◌∙◌, true, false, List, map, take, subst, sym, string_bytes}
use Rattle.std.specs.Prelude.{String, Vec}
use Rattle.std.specs.declared.alloc.Global.{Global}
use Rattle.tcltext.specs.chars.Runs.{Text}
use Rattle.port_rewriting.specs.AskingViews.{is_meant, Covers}
use Rattle.port_rewriting.specs.Families.{is_excluded}
use Rattle.port_rewriting.proofs.Covering.{next_module}
use Rattle.port_rewriting.proofs.names.Site.meant.Goals as goal
use Rattle.port_rewriting.proofs.names.Site.meant.Goals.{then-is_meant+in_ok-add_once, else-is_meant}

pub loop-own-preserved : goal.loop-own-preserved
loop-own-preserved c =
    let meant = is_meant c.args.self.now c.args.name.now in
    let index = c.loop-own.own-index in
    let old = is_excluded c.loop-own.meant.items in
    let same : c.deref-own-items.result.now ≡ c.args.self.now.modules.items = c.deref-own-items.ensures.value in
    let before = subst (λ (ms : List (String Global)). Covers meant (map string_bytes (take index ms)) old) (sym same) c.loop-own.invariant in
    subst (λ (ms : List (String Global)). Covers meant (map string_bytes (take (index + 1) ms)) (is_excluded c.if-is_meant.meant.items)) same
    (elim c.if-is_meant.branch [
      | then-is_meant+in_ok-add_once w ↦
          subst (λ (v : Vec (String Global) Global). Covers meant (map string_bytes (take (index + 1) c.deref-own-items.result.now)) (is_excluded v.items))
          (sym w.meant-is)
          (next_module meant c.deref-own-items.result.now index c.own-item.result old (is_excluded w.add_once.new.names.items)
          c.loop-own-test.true c.own-item.is before w.in_ok-add_once.ensures.kept
          (λ h. subst (λ (t : Text). is_excluded w.add_once.new.names.items t ≡ true) w.as_str-then-is_meant.ensures.value w.in_ok-add_once.ensures.there))
      | else-is_meant w ↦
          subst (λ (v : Vec (String Global) Global). Covers meant (map string_bytes (take (index + 1) c.deref-own-items.result.now)) (is_excluded v.items))
          (sym w.meant-is)
          (next_module meant c.deref-own-items.result.now index c.own-item.result old old c.loop-own-test.true c.own-item.is before (λ x h. h)
          (λ h. let never : true ≡ false = sym (c.is_meant.ensures (subst (λ (t : Text). meant t ≡ true) (sym c.as_str.ensures.value) h)) ∙ w.if-is_meant.false in cc))
    ])
