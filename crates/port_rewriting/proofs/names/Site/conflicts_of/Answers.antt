use Rattle.std.proofs.Common.{◌≡◌, ◌≢◌, ◌+◌, List, map, take, true, subst, sym, string_bytes}
use Rattle.std.specs.Prelude.{String}
use Rattle.std.specs.declared.alloc.Global.{Global}
use Rattle.tcltext.specs.chars.Runs.{Text}
use Rattle.port_rewriting.specs.Families.{is_excluded, ExcludesOthers}
use Rattle.port_rewriting.specs.FamilyViews.{is_in_family}
use Rattle.port_rewriting.proofs.Excluding.{next_module}
use Rattle.port_rewriting.proofs.names.Site.conflicts_of.Goals as goal

pub loop-other-preserved : goal.loop-other-preserved
loop-other-preserved c =
    let member = is_in_family c.args.self.now.members.items c.args.family.now in
    let own = c.args.own.now in
    let index = c.loop-other.other-index in
    let old = c.loop-other.names.items in
    let new = c.exclude.new.names.items in
    let same : c.deref-other-items.result.now ≡ c.args.self.now.modules.items = c.deref-other-items.ensures.value in
    subst (λ (ms : List (String Global)). ExcludesOthers member (map string_bytes (take (index + 1) ms)) own new) same
    (next_module member c.deref-other-items.result.now index c.other-item.result own old new c.loop-other-test.true c.other-item.is
    (subst (λ (ms : List (String Global)). ExcludesOthers member (map string_bytes (take index ms)) own old) (sym same) c.loop-other.invariant)
    c.in_ok-exclude.ensures.kept
    (subst (λ (t : Text). t ≢ own → member t ≡ true → is_excluded new t ≡ true) c.as_str.ensures.value
    (c.in_ok-exclude.ensures.excluded c.if-not-branch.false)))
