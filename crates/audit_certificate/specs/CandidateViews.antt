-- What a candidate of the code stands for in the definitions (own).
use Rattle.std.specs.Prelude.{map, string_bytes}
use Rattle.envvars.specs.Texts.{texts_in}
use Rattle.modulefile.specs.RecordViews.{record_view}
use Rattle.audit_certificate.specs.Candidates as candidates
use Rattle.audit_certificate.specs.declared.candidate.Candidate.{Candidate}

-- a candidate
abbrev pub candidate_view : Candidate → candidates.Candidate
candidate_view m =
    record {
      name = string_bytes m.name;
      path = string_bytes m.path;
      records = map record_view m.records.items;
      reads = texts_in m.reads;
    }
