use Rattle.std.proofs.Common.{sym, ◌∙◌, arith}
use Rattle.filetree.proofs.NameLemmas.{is_hidden-first}
use Rattle.filetree.proofs.PathLemmas.{parted}
use Rattle.filetree.proofs.disk.hidden_name.Goals as goal

pub returns-then-starts_with : goal.returns-then-starts_with
returns-then-starts_with c =
    let name = c.in_ok-dir.name.now in
    let k = c.in_ok-dir.ensures.cases in
    let p = parted c.args.path.now c.in_ok-dir.dir.now name k.0 k.1 k.2 k.3 k.4 in
    let byte = c.starts_with.ensures.byte (omega arith) (omega arith) (λ w o r. r) in
    (p.0, p.1, sym (is_hidden-first name) ∙ (sym byte ∙ c.if-starts_with.true))
