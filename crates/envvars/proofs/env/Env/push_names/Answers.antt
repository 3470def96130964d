use Rattle.envvars.specs.Texts.{slice_texts}
use Rattle.envvars.specs.Given.{variables_of, names_of}
use Rattle.envvars.proofs.GivenLemmas.{not_named}
use Rattle.envvars.proofs.TableLemmas.{all_appended}
use Rattle.envvars.proofs.env.Env.push_names.Goals as goal

pub returns : goal.returns
returns c =
    let given = c.self.inside.given in
    all_appended (variables_of given) c.args.self.now c.self.inside.written.entries (slice_texts c.args.names.now.items)
    _ _ (names_of given) c.self.view_is c.in_ok-push_names_of.ensures c.in_ok-push_names.ensures
    (λ m k. not_named given.block.items given.entries.items m k)
