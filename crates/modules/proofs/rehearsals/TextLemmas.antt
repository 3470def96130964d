-- One request with its text, and rehearsals that go on by one.
use Rattle.std.proofs.Common.{◌≡◌, ℕ, ◌+◌, ◌≤◌, ◌<◌, true, false, List, [], ◌∷◌, ◌++◌, Option, Some, None, map, Result}
use Rattle.std.proofs.Common.{Ok, Err, refl, sym, ap, ◌∙◌, subst, arith}
use Rattle.std.specs.Prelude.{◌==◌, string_bytes}
use Rattle.std.specs.declared.alloc.Global.{Global}
use Rattle.std.specs.declared.string.String.{String}
use Rattle.envvars.specs.Texts.{Text}
use Rattle.envvars.specs.Environment.{Environment}
use Rattle.envvars.specs.Changes.{NewValue, AreChanges}
use Rattle.filetree.specs.Agreement.{Files, Listings, InEachPair}
use Rattle.shelltext.specs.declared.shell.Shell.{Shell}
use Rattle.tclrules.specs.declared.limits.Limits.{Limits}
use Rattle.shelltext.specs.Reading.{TextSays}
use Rattle.shelltext.specs.Printing.{IsPrintFault}
use Rattle.shelltext.specs.declared.print.PrintFault.{PrintFault}
use Rattle.shelltext.specs.declared.print.PrintFault.TheVariants.{OutOfMemory, NotSayable}
use Rattle.requests.specs.Reasons.{RequestReason}
use Rattle.requests.specs.Requests.{Request}
use Rattle.requests.specs.RequestViews.{request_view}
use Rattle.requests.specs.declared.action.Request as code
use Rattle.requests.specs.Steps.{RequestContext, Done, RequestStep, request_context_in}
use Rattle.requests.specs.Sessions.{accepted, refused, given_up, is_given_up_by, Session, end_environment}
use Rattle.filetree.specs.Causes.{Cause, Applies, memory, device, because}
use Rattle.modules.specs.Answers.{cause_of}
use Rattle.modules.specs.Messages.{memory_number}
use Rattle.modules.proofs.MemoryNumberLemmas.{of_three}
use Rattle.modules.specs.declared.refusal.Refusal.{Refusal}
use Rattle.modules.specs.rehearsals.Rehearsals.{ArePrints, Rehearsal, one_failed, count_failed}
use Rattle.modules.specs.rehearsals.RehearsalParts.{PrintsFor, print_view, prints}

-- a number that isn't 62
not_unsayable : (n : ℕ) → (n == 62) ≡ false → (X : Type 0) → n ≡ 62 → X
not_unsayable n e X h = let z : (62 == 62) ≡ false = subst (λ m. (m == 62) ≡ false) h e in absurd (clash z)
  where
    clash : true ≡ false → ⊥
    clash z = cc

none_more : (before after : ℕ) → before ≤ after → before + 0 ≤ after
none_more before after h = omega arith

wanting_counts : (before after n : ℕ) → (n == 43) ≡ false → before ≤ after → before + one_failed (given_up n) ≤ after
wanting_counts before after n is_other later = rw is_other (none_more before after later)

one_more : (before after : ℕ) → before < after → before + 1 ≤ after
one_more before after h = omega arith

counts : (before mid after a b : ℕ) → before + a ≤ mid → mid + b ≤ after → before + (a + b) ≤ after
counts before mid after a b h k = omega arith

module _ (agrees : Files → Listings → Type 0) (limits : Limits) (r : Request) (e : Environment) (before after : ℕ) (later : before ≤ after) where
  abbrev Steps : Result Done RequestReason → Type 0
  Steps o = InEachPair agrees (λ files listings. RequestStep (request_context_in limits r.0 files listings) e r.1 o)

  -- memory was wanting, by this number
  came_wanting : (n : ℕ) → is_given_up_by n ≡ true → (n == 43) ≡ false → (n == 62) ≡ false → PrintsFor agrees limits r e e None before after
  came_wanting n is not_device not_text = record {
    response = given_up n;
    answers = λ files listings agreed. is;
    printed = λ files listings agreed shell. (refl, not_unsayable n not_text _);
    end = refl;
    failures = wanting_counts before after n not_device later;
  }

  -- for what the request makes of the environment
  pub wanting_came : PrintsFor agrees limits r e e None before after
  wanting_came = came_wanting 31 refl refl refl

  -- the number of want of memory is that of the refusal
  cause_came : (refusal : Refusal) (c : Cause RequestReason) → Applies c (before < after) (λ reason. Steps (Err reason)) → PrintsFor agrees limits r e e None before after
  cause_came refusal memory h =
      came_wanting (memory_number refusal) (of_three refusal (λ n. is_given_up_by n ≡ true) refl refl refl)
      (of_three refusal (λ n. (n == 43) ≡ false) refl refl refl)
      (of_three refusal (λ n. (n == 62) ≡ false) refl refl refl)
  cause_came refusal device h = record {
    response = given_up 43;
    answers = λ files listings agreed. refl;
    printed = λ files listings agreed shell. (refl, not_unsayable 43 refl _);
    end = refl;
    failures = one_more before after h;
  }
  cause_came refusal (because reason) h = record {
    response = refused reason;
    answers = h;
    printed = λ files listings agreed shell. refl;
    end = refl;
    failures = none_more before after later;
  }

  pub refused_came : (refusal : Refusal) → Applies (cause_of refusal) (before < after) (λ reason. Steps (Err reason)) → PrintsFor agrees limits r e e None before after
  refused_came refusal h = cause_came refusal (cause_of refusal) h

  module _ (d : Done) (cs : List NewValue) (step : Steps (Ok d)) (changes : AreChanges e d.env cs) where
    pub unsaid_came : (fault : PrintFault) → IsPrintFault r.0 cs fault → PrintsFor agrees limits r e e None before after
    unsaid_came OutOfMemory h = record {
      response = given_up 61;
      answers = λ files listings agreed. refl;
      printed = λ files listings agreed shell. (refl, not_unsayable 61 refl _);
      end = refl;
      failures = none_more before after later;
    }
    unsaid_came (NotSayable name) h = record {
      response = given_up 62;
      answers = λ files listings agreed. refl;
      printed = λ files listings agreed shell. (refl, λ is. (d, string_bytes name, step files listings agreed, (cs, changes, h)));
      end = refl;
      failures = none_more before after later;
    }

    pub accepted_came : (new : Environment) (text : Text) → TextSays r.0 text cs → new ≡ d.env → PrintsFor agrees limits r e new (Some text) before after
    accepted_came new text says made = record {
      response = accepted d;
      answers = step;
      printed = λ files listings agreed shell. record { changes = cs; exact = changes; says = says };
      end = made;
      failures = none_more before after later;
    }

-- ---- rehearsals

-- no request remains
pub no_requests : (s : RequestContext) (e : Environment) (rest : List code.Request) (n : ℕ) → rest ≡ [] → Rehearsal s e (map request_view rest) [] e n n
no_requests s e rest n none =
    let Rest : List code.Request → Type 0 = λ rs. Rehearsal s e (map request_view rs) [] e n n in
    subst Rest (sym none) (record {
      rehearsed = record { responses = []; session = tt; prints = tt; leaves = refl };
      failures = none_more n n (omega arith);
    })

-- of a request before others
pub rehearsed_on : (agrees : Files → Listings → Type 0) (limits : Limits) (files : Files) (listings : Listings) (shell : Shell) → agrees files listings
    → (r : Request) (e new : Environment) (p : Option Text) (rs : List Request) (ps : List (Option Text)) (end : Environment) (before mid after : ℕ)
    → PrintsFor agrees limits r e new p before mid → Rehearsal (request_context_in limits shell files listings) new rs ps end mid after
    → Rehearsal (request_context_in limits shell files listings) e (r ∷ rs) (p ∷ ps) end before after
rehearsed_on agrees limits files listings shell agreed r e new p rs ps end before mid after prints_for h =
    let s = request_context_in limits shell files listings in
    let o = prints_for.response in
    let os = h.rehearsed.responses in
    record {
      rehearsed = record {
        responses = o ∷ os;
        session = (prints_for.answers files listings agreed, subst (λ x. Session s x rs os) prints_for.end h.rehearsed.session);
        prints = (prints_for.printed files listings agreed shell, subst (λ x. ArePrints s x rs os ps) prints_for.end h.rehearsed.prints);
        leaves = h.rehearsed.leaves ∙ ap (λ x. end_environment x os) prints_for.end;
      };
      failures = counts before mid after (one_failed o) (count_failed os) prints_for.failures h.failures;
    }

-- one text more
pub prints_push : (texts : List (Option (String Global))) (text : Option (String Global)) (ps : List (Option Text))
    → prints texts ++ print_view text ∷ ps ≡ prints (texts ++ text ∷ []) ++ ps
prints_push [] text ps = refl
prints_push (t ∷ ts) text ps = ap (λ (xs : List (Option Text)). print_view t ∷ xs) (prints_push ts text ps)
