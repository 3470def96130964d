use Rattle.std.proofs.lemmas.Result.{on_ok_weaker}
use Rattle.audit_site.proofs.NameLemmas.{inserted_single, inserted_in_folder}
use Rattle.audit_site.proofs.names.+add_meaning.Goals as goal

pub returns-in-Some : goal.returns-in-Some
returns-in-Some t c = on_ok_weaker c.add_meaning.result
    (λ h name. inserted_in_folder c.args.meaning.now.keys c.insert.new.self.keys c.add_meaning.new.meaning.keys c.in_ok-from_str.field-0 c.args.full_name.now c.in-Some.folder.now name
    c.in_ok-from_str.ensures.ok c.in_ok-insert.ensures.keys c.in-Some.ensures (h name))
    c.add_meaning.ensures

pub returns-in-None : goal.returns-in-None
returns-in-None t c = λ name. inserted_single c.args.meaning.now.keys c.insert.new.self.keys c.in_ok-from_str.field-0
    c.args.full_name.now name c.in_ok-from_str.ensures.ok c.in_ok-insert.ensures.keys c.in-None.ensures
