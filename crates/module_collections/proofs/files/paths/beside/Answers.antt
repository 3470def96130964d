use Rattle.std.proofs.Common.{◌≡◌, sym, subst, arith, string_bytes}
use Rattle.std.specs.Prelude.{IfOk}
use Rattle.std.proofs.lemmas.Str.Pattern.{NoCharPasses-char}
use Rattle.envvars.specs.Texts.{Text}
use Rattle.module_collections.proofs.files.PathLemmas.{beside_alone, beside_parted}
use Rattle.module_collections.proofs.files.paths.beside.Goals as goal

pub returns-in-Some : goal.returns-in-Some
returns-in-Some c =
    let k = c.in-Some.ensures.cases in
    let e = beside_parted c.args.path.now c.in-Some.folder.now c.in-Some.field-0-1.now c.args.name.now k.0 k.1 k.2 k.3 k.4 in
    subst (λ (t : Text). IfOk c.in_folder.result (λ other. string_bytes other ≡ t)) (sym e) c.in_folder.ensures

pub returns-in-None : goal.returns-in-None
returns-in-None c =
    let e = beside_alone c.args.path.now c.args.name.now (λ i l. NoCharPasses-char 47 c.args.path.now i c.in-None.ensures.cases (omega arith) l) in
    subst (λ (t : Text). IfOk c.from_str.result (λ other. string_bytes other ≡ t)) (sym e) c.from_str.ensures.ok
