use Rattle.std.proofs.Common.{◌≡◌, ◌++◌, ◌∙◌, option_map, option_to_list, rules}
use Rattle.audit_site.specs.declared.standing.AuditStanding.TheVariants.{Unstable, OneWay}
use Rattle.audit_site.specs.Audits.{inconsistent_module}
use Rattle.audit_site.proofs.StandingLemmas.{gathered}
use Rattle.audit_site.proofs.standing.standings_of.Goals as goal

pub returns : goal.returns
returns c =
    let asks : c.map.result ≡ option_map Unstable c.args.unkept = search rules in
    let one_way : c.map-2.result ≡ option_map OneWay c.in_ok-one_way.one_way = search rules in
    let unlike : c.map-3.result ≡ option_map inconsistent_module c.args.unlike = search rules in
    record {
      one_way = c.in_ok-one_way.one_way;
      returns = c.in_ok-one_way.ensures;
      all = gathered c.map.result c.map-2.result c.map-3.result c.new-standings.result.items c.push_standing.new.standings.items c.push_standing-2.new.standings.items
          c.push_standing-3.new.standings.items c.new-standings.ensures.items c.in_ok-push_standing.ensures c.in_ok-push_standing-2.ensures
          c.in_ok-push_standing-3.ensures
          ∙ (λ i. option_to_list (asks i) ++ (option_to_list (one_way i) ++ option_to_list (unlike i)));
    }
