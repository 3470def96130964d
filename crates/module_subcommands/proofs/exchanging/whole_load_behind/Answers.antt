use Rattle.std.proofs.Common.{◌<◌, List, map, string_bytes, String, inr, arith}
use Rattle.std.proofs.lemmas.Result.{IfOk-weaker}
use Rattle.std.specs.declared.alloc.Global.{Global}
use Rattle.message.specs.Messages.{Text}
use Rattle.module_auto.proofs.ResultLemmas.{if_err}
use Rattle.module_words.specs.function.Moved.{moved_view}
use Rattle.module_subcommands.specs.Exchanges.{IsWholeLoad, IsWholeLoadBehind, LoadNamesStep, RefusesLoadBehind}
use Rattle.module_subcommands.specs.Changes.{IsRefusedChange}
use Rattle.module_subcommands.proofs.ChangeLemmas.{refusal_wider}
use Rattle.module_subcommands.proofs.ExchangeLemmas.{load_behind}
use Rattle.module_subcommands.proofs.NarrowLemmas.{in_pairs}
use Rattle.module_subcommands.proofs.exchanging.whole_load_behind.Goals as goal

pub returns-clause-whole : goal.returns-clause-whole
returns-clause-whole g c =
    let agrees = g.T.Tree.agrees c.whole_load.new.tree in
    let shell = c.args.asking.now.shell in
    let e = c.args.asking.now.env in
    let unloads : List Text = map (λ (s : String Global). string_bytes s) c.args.unloaded.now in
    let moved = moved_view c.args.moved in
    let behind = c.in_ok-behind.behind in
    IfOk-weaker c.whole_load.result (IsWholeLoad agrees shell behind moved) (IsWholeLoadBehind agrees shell e unloads moved)
    (λ w h. load_behind agrees shell e unloads moved w behind c.if-not-moved.false
    (in_pairs (g.T.Tree.agrees c.env_behind.new.tree) agrees c.whole_load.ensures.reads.narrows _ c.in_ok-behind.ensures.behind) h) c.whole_load.ensures.whole

pub returns-clause-refused : goal.returns-clause-refused
returns-clause-refused g c =
    let agrees = g.T.Tree.agrees c.whole_load.new.tree in
    let failed = g.T.Tree.failures c.args.tree.now < g.T.Tree.failures c.whole_load.new.tree in
    let later = g.T.Tree.failures c.env_behind.new.tree < g.T.Tree.failures c.whole_load.new.tree in
    let shell = c.args.asking.now.shell in
    let e = c.args.asking.now.env in
    let unloads : List Text = map (λ (s : String Global). string_bytes s) c.args.unloaded.now in
    let moved = moved_view c.args.moved in
    let behind = c.in_ok-behind.behind in
    let Step = LoadNamesStep shell behind moved in
    if_err c.whole_load.result (IsRefusedChange agrees later shell behind Step) (RefusesLoadBehind agrees failed shell e unloads moved)
    (λ refusal h. inr (
      behind,
      in_pairs (g.T.Tree.agrees c.env_behind.new.tree) agrees c.whole_load.ensures.reads.narrows _ c.in_ok-behind.ensures.behind,
      refusal_wider agrees agrees (λ files listings a. a) later failed (λ q. omega (arith, q, c.env_behind.ensures.reads.counts_failures)) shell behind Step Step (λ files listings o a k. k) refusal h,
    )) c.whole_load.ensures.refused
