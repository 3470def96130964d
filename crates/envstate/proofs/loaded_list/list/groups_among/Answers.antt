use Rattle.envstate.specs.loaded_list.LoadedEntries.{groups_in}
use Rattle.envstate.proofs.loaded_list.LoadedReading.{groups-turn}
use Rattle.envstate.proofs.loaded_list.list.groups_among.Goals as goal

pub loop-word-preserved : goal.loop-word-preserved
loop-word-preserved c =
    groups-turn (groups_in c.loop-word.groups) (groups_in c.push_group.new.groups) _ c.args.words.now c.loop-word.word-index _ c.loop-word-test.true c.in_ok-push_group.ensures c.loop-word.invariant
