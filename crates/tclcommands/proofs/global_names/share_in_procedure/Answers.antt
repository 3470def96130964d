use Rattle.std.proofs.Common.{◌≡◌, true, false, is_some, map, string_bytes, rules}
use Rattle.tclrules.proofs.Leading.{stay}
use Rattle.tclcommands.proofs.Insides.{inside, not_inside}
use Rattle.tclcommands.proofs.global_names.share_in_procedure.Goals as goal

pub returns-then-is_in_procedure : goal.returns-then-is_in_procedure
returns-then-is_in_procedure c =
    let h : is_some c.args.variables.now.frame ≡ true = search rules in
    λ most r k x. rw (inside c.args.variables.now.frame (map string_bytes c.args.names.now) c.args.variables.now k h) (c.share.ensures most r k x)

pub returns : goal.returns
returns c =
    let h : is_some c.args.variables.now.frame ≡ false = search rules in
    λ most r k x. rw (not_inside c.args.variables.now.frame (map string_bytes c.args.names.now) c.args.variables.now k h) stay
