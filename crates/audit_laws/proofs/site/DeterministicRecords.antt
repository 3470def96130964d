-- A deterministic module leaves records that undo equivalently wherever the variables that it reads have the values of
-- the environment at hand. What it reads is a variable of the user's.
use Rattle.std.proofs.Common.{◌≡◌, inl, inr, List, ◌∷◌, Ok, Err, ap, sym, ◌∙◌, subst}
use Rattle.envvars.specs.Texts.{Text}
use Rattle.envvars.specs.Environment.{Environment}
use Rattle.filetree.specs.Modulefiles.{script, modulefile}
use Rattle.modulefile.specs.Answers.{any_loaded}
use Rattle.modulefile.specs.Records.{Record}
use Rattle.audit_certificate.specs.RecordUses.{IsAmong}
use Rattle.modulefile.specs.Files.{Ran, RunsFile, IsSameOrRefused}
use Rattle.modulefile.specs.Laws as files
use Rattle.reversal.specs.Undone.{UndoEquivalently}
use Rattle.requests.specs.Steps.{RequestContext}
use Rattle.audit_laws.specs.determinism.StableInput.{asks_mode, asks_shell, variables_read, IsSameContext, AreEquivalent}
use Rattle.audit_laws.specs.determinism.LoadedAnswers.{questions_tried}
use Rattle.audit_laws.specs.determinism.Laws.{DeterministicFilesAgree, UndoIsTested}
use Rattle.audit_laws.proofs.determinism.Rests.{IsOfUser, resting_parts}
use Rattle.audit_laws.proofs.determinism.ReadVariables.{read_rests}
use Rattle.audit_laws.specs.site.Sites.{Site, SiteModule, over_site, HasDeterministicRecords, Reads}
use Rattle.audit_laws.specs.site.Laws.{LoadEquivalently, DeterministicRecordsAreAll}
use Rattle.audit_laws.proofs.site.Chosen.{loaded_by, chosen_alike, all_loaded}
use Rattle.audit_laws.proofs.site.Covered.{matched, is_way, are_tried, in_way, read_at_rest}
use Rattle.audit_laws.proofs.site.Evaluations.{evaluated, read_by_runs}

pub of_user : files.OneOutcome → (site : Site) (m : SiteModule) (rs : List Record) (v : Text) → HasDeterministicRecords site m rs → Reads site m v → IsOfUser v
of_user one site m rs v p r =
    let k = read_at_rest site m p.runs v p.evaluated p.deterministic (read_by_runs one site m p.runs v p.evaluated r) in
    (resting_parts k.ran.records v (read_rests k.ran.records k.ran.asked v k.rested k.read)).0

one_text : (s : RequestContext) (path a b : Text) → modulefile (s.files path) ≡ script a → modulefile (s.files path) ≡ script b → a ≡ b
one_text s path a b h k = let q : script a ≡ script b = sym h ∙ k in cc

agreed : (ran other : Ran) → IsSameOrRefused ran (Ok other) → other.records ≡ ran.records
agreed ran other (inl (again, same, records)) = let q : other ≡ again = (let r : Ok other ≡ Ok again = same in cc) in ap (λ (x : Ran). x.records) q ∙ records
agreed ran other (inr (n, refusal, reason, same, stop)) = absurd (let r : Ok other ≡ Err reason = same in cc)

pub deterministic_records : DeterministicFilesAgree → UndoIsTested → DeterministicRecordsAreAll
deterministic_records law tested site m rs ran left p changing alike =
    let asked = p.runs.first.asked in
    let questions = questions_tried asked in
    let loaded = left.context.loaded in
    let found = matched (asks_mode asked) (asks_shell asked) left.context.mode left.context.in_switch left.context.shell (loaded_by loaded questions) changing in
    let way = found.1 in
    let there = in_way tested site m p.runs found.0 p.evaluated p.deterministic
    (is_way (asks_mode asked) (asks_shell asked) left.context.mode left.context.in_switch left.context.shell questions loaded found.0 way) in
    let a = evaluated site found.0 m there.ran there.evaluated in
    let same_way : IsSameContext there.ran.asked a.context left.context = record {
      mode = λ t. sym (a.mode ∙ way.mode (there.of_mode t));
      in_switch = λ t. sym (a.in_switch ∙ way.in_switch (there.of_mode t));
      shell = λ t. sym (a.shell ∙ way.shell (there.of_shell t));
      loaded = all_loaded (λ names. any_loaded names loaded ≡ any_loaded names a.context.loaded) there.ran.records there.ran.asked there.rested (λ n ns i.
          sym (ap (any_loaded (n ∷ ns)) (a.loaded ∙ way.with_loaded)
          ∙ chosen_alike loaded questions n ns (subst (IsAmong (n ∷ ns)) (are_tried site m p.runs p.evaluated p.deterministic) (there.of_loaded (n ∷ ns) i))));
    } in
    let values : AreEquivalent (variables_read there.ran.asked) a.context.before left.context.before =
    subst (λ (e : Environment). AreEquivalent (variables_read there.ran.asked) e left.context.before) (sym a.before)
    (λ v h. alike v (record { runs = p.runs; evaluated = p.evaluated; read = there.reads v h })) in
    let records : ran.records ≡ there.ran.records = agreed there.ran ran
    (law site.limits a.context left.context a.text there.ran (Ok ran) a.runs there.rested (rw a.mode way.changing) changing same_way values
    (left.named ∙ sym a.named) (left.at_path ∙ sym a.at_path)
    (subst (λ (t : Text). RunsFile site.limits left.context t (Ok ran)) (one_text (over_site site) m.path left.text a.text left.file a.file) left.runs)) in (
      subst (λ (xs : List Record). UndoEquivalently xs rs) (sym records) (subst (λ (xs : List Record). UndoEquivalently there.ran.records xs) (sym p.records) there.undoes),
      (λ l. subst (λ (xs : List Record). LoadEquivalently rs xs) (sym records)
          (subst (λ (xs : List Record). LoadEquivalently xs there.ran.records) (sym p.records) (there.loads (way.loads l)))),
    )
