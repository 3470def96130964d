use Rattle.std.proofs.Common.{◌≡◌, find, map, drop}
use Rattle.audit_certificate.specs.Users.{do_users_clash}
use Rattle.audit_certificate.specs.UserViews.{user_view}
use Rattle.audit_certificate.proofs.users.first_clash_among.Given as goal

abbrev pub invariant-loop-other : goal.invariant-loop-other
invariant-loop-other l =
    find (do_users_clash (user_view l.user)) (map user_view l.others)
    ≡ find (do_users_clash (user_view l.user)) (map user_view (drop l.other-index l.others))
