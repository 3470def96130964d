use Rattle.std.proofs.Common.{get_or, subst, IfSome}
use Rattle.std.specs.Prelude.{Option, String, Vec}
use Rattle.std.specs.declared.alloc.Global.{Global}
use Rattle.port_rewriting.specs.AskingViews.{StandsFor}
use Rattle.port_rewriting.specs.RecordViews.{texts_in}
use Rattle.port_rewriting.proofs.Asking.{nothing, stands_more}
use Rattle.port_rewriting.proofs.reader.Reader.all_asked.Goals as goal

pub loop-name-preserved : goal.loop-name-preserved
loop-name-preserved c =
    let name = (get_or c.args.names.now c.loop-name.name-index nothing).now in
    stands_more (StandsFor c.args.self.now.given.site) c.args.names.now c.loop-name.name-index nothing c.loop-name.lists.items
    c.push.new.self.items c.in-Some.modules c.loop-name-test.true c.loop-name.invariant
    (subst (λ (found : Option (Vec (String Global) Global)). IfSome found (λ v. StandsFor c.args.self.now.given.site name (texts_in v))) c.in-Some.is
    c.in_ok-asked.ensures)
    c.in_ok-push-in-Some.ensures.items
