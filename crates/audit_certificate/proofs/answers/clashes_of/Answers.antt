use Rattle.std.proofs.Common.{List, map, subst}
use Rattle.audit_certificate.specs.Candidates.{Candidate}
use Rattle.audit_certificate.specs.Users.{AreUsersOf, uses_of_modules}
use Rattle.audit_certificate.specs.Certificates.{selected}
use Rattle.audit_certificate.specs.Tables.{users_at}
use Rattle.audit_certificate.specs.RankedModule.{ranked_module, taken}
use Rattle.audit_certificate.specs.UsingModules.{candidate_in}
use Rattle.audit_certificate.specs.declared.ranks.RankedModule.{RankedModule}
use Rattle.audit_certificate.proofs.TakenUsers.{staying_users}
use Rattle.audit_certificate.proofs.answers.clashes_of.Goals as goal

pub returns-clause-answers : goal.returns-clause-answers
returns-clause-answers c =
    let ms : List Candidate = map candidate_in c.args.users.now in
    let users : AreUsersOf (users_at c.in_ok-table.table) (uses_of_modules (taken (map ranked_module c.in_ok-ranks.ranks.items)))
    = subst (λ (l : List RankedModule). AreUsersOf (users_at c.in_ok-table.table) (uses_of_modules (taken (map ranked_module l)))) c.as_slice.ensures.value c.in_ok-table.ensures in
    let stay : AreUsersOf (users_at c.in_ok-table.table) (uses_of_modules (selected ms))
    = staying_users (users_at c.in_ok-table.table) ms c.in_ok-ranks.ranks.items c.in_ok-ranks.ensures.same (c.in_ok-ranks.ensures.competitors ms c.in_ok-tally.ensures) c.in_ok-ranks.ensures.sorted users in
    c.in_ok-answers.ensures ms c.in_ok-tally.ensures stay

pub returns-clause-beside : goal.returns-clause-beside
returns-clause-beside c =
    let ms : List Candidate = map candidate_in c.args.users.now in
    let users : AreUsersOf (users_at c.in_ok-table.table) (uses_of_modules (taken (map ranked_module c.in_ok-ranks.ranks.items)))
    = subst (λ (l : List RankedModule). AreUsersOf (users_at c.in_ok-table.table) (uses_of_modules (taken (map ranked_module l)))) c.as_slice.ensures.value c.in_ok-table.ensures in
    let stay : AreUsersOf (users_at c.in_ok-table.table) (uses_of_modules (selected ms))
    = staying_users (users_at c.in_ok-table.table) ms c.in_ok-ranks.ranks.items c.in_ok-ranks.ensures.same (c.in_ok-ranks.ensures.competitors ms c.in_ok-tally.ensures) c.in_ok-ranks.ensures.sorted users in
    c.in_ok-beside.ensures ms c.in_ok-tally.ensures stay
