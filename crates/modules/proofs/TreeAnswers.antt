-- What a call over a tree answers, by what the calls in it answered.
use Rattle.std.proofs.Common.{◌≡◌, ◌<◌, Bool, ℕ, None, Result, Ok, Err, refl, sym, ap, ◌∙◌, subst, arith}
use Rattle.envvars.specs.Texts.{Text}
use Rattle.filetree.specs.Agreement.{Files, Listings, InEachPair, ReadsOn}
use Rattle.filetree.specs.Causes.{Applies}
use Rattle.requests.specs.Reasons.{RequestReason}
use Rattle.filetree.proofs.FailedPaths.{fails_then, fails_last}
use Rattle.modules.specs.declared.refusal.Refusal.{Refusal}
use Rattle.modules.specs.declared.refusal.Refusal.TheVariants.{OutOfMemory}
use Rattle.modules.specs.Answers.{GivesOrRefuses, cause_of, is_failure}
use Rattle.modules.specs.Parts.{TreeAnswer}
use Rattle.modules.proofs.StepLemmas.{stands_as, over_tree_given, over_tree_same, over_tree_refused}
use Rattle.modules.proofs.FailureLemmas.{unfailed, gives_unfailed}

-- the outcomes in each pair of maps, and the paths that are looked at
abbrev pub Outcomes : Type 0 → Type 1
Outcomes Y = Files → Listings → Result Y RequestReason → Type 0

abbrev pub Paths : Type 1
Paths = Files → Listings → Text → Type 0

-- each outcome of the one is an outcome of the other
abbrev pub Within : {Y : Type 0} → Outcomes Y → Outcomes Y → Type 0
Within {Y} First Whole = (files : Files) (listings : Listings) (o : Result Y RequestReason) → First files listings o → Whole files listings o

abbrev pub RefusedWithin : {Y Z : Type 0} → Outcomes Y → Outcomes Z → Type 0
RefusedWithin First Whole = (files : Files) (listings : Listings) (r : RequestReason) → First files listings (Err r) → Whole files listings (Err r)

abbrev pub LooksWithin : Paths → Paths → Type 0
LooksWithin Looks Wider = (files : Files) (listings : Listings) (at : Text) → Looks files listings at → Wider files listings at

-- what a `?` returns where this is the refusal
abbrev pub IsRefusal : {V : Type 0} → Result V Refusal → Refusal → Type 0
IsRefusal result e = (y : Refusal) × (result ≡ Err y) × (y ≡ e)

-- The calls so far led on to the rest of a call: what the rest comes to the whole does, and where it looks the whole does.
pub record Leads {T W : Type 0} (agrees : T → Files → Listings → Type 0) (failures : T → ℕ) (failed : T → Text → Bool) (old mid : T) (Rest Whole : Outcomes W) (Looks Wider : Paths) : Type 0 where
  pub reads : ReadsOn agrees failures old mid
  pub comes : InEachPair (agrees mid) (λ files listings. (o : Result W RequestReason) → Rest files listings o → Whole files listings o)
  pub looks : InEachPair (agrees mid) (λ files listings. (at : Text) → Looks files listings at → Wider files listings at)
  pub unfailed : failed mid ≡ failed old

module _ {T : Type 0} {agrees : T → Files → Listings → Type 0} {failures : T → ℕ} where
  pub same_tree : (t : T) → ReadsOn agrees failures t t
  same_tree t = record { narrows = λ files listings a. a; counts_failures = omega arith }

  pub reads_both : (a b c : T) → ReadsOn agrees failures a b → ReadsOn agrees failures b c → ReadsOn agrees failures a c
  reads_both a b c h k = record {
    narrows = λ files listings x. h.narrows files listings (k.narrows files listings x);
    counts_failures = omega (arith, h.counts_failures, k.counts_failures);
  }

module _ {T : Type 0} {agrees : T → Files → Listings → Type 0} {failures : T → ℕ} {failed : T → Text → Bool} where
  -- ---- before any call over the tree

  -- a value
  pub answers_now : {X Y : Type 0} (t : T) (view : X → Y) (x : X) (Whole : Outcomes Y) (Looks : Paths)
      → ((files : Files) (listings : Listings) → Whole files listings (Ok (view x))) → TreeAnswer agrees failures failed t t view (Ok x) Whole Looks
  answers_now t view x Whole Looks h = record { reads = same_tree t; over_tree = λ files listings a. h files listings; failed_at = refl }

  -- a refusal of a call without a tree
  pub refused_now : {V W : Type 0} (t : T) (view : V → W) (result : Result V Refusal) (e : Refusal) (Gave : RequestReason → Type 0) (Whole : Outcomes W) (Looks : Paths)
      → IsRefusal result e → Applies (cause_of e) ⊥ Gave → ((files : Files) (listings : Listings) (r : RequestReason) → Gave r → Whole files listings (Err r))
      → TreeAnswer agrees failures failed t t view result Whole Looks
  refused_now t view result e Gave Whole Looks (y, is, same) h then =
      subst (λ z. TreeAnswer agrees failures failed t t view z Whole Looks) (sym (is ∙ ap Err same)) (record {
        reads = same_tree t;
        over_tree = stands_as (cause_of e) ⊥ (failures t < failures t) Gave (λ r. InEachPair (agrees t) (λ files listings. Whole files listings (Err r)))
            (λ q. absurd q) (λ r k files listings a. then files listings r k) h;
        failed_at = unfailed e Gave (failed t) (failed t) (λ at. InEachPair (agrees t) (λ files listings. Looks files listings at)) h refl;
      })

  -- want of memory
  pub starved_now : {V W : Type 0} (t : T) (view : V → W) (result : Result V Refusal) (Whole : Outcomes W) (Looks : Paths)
      → IsRefusal result OutOfMemory → TreeAnswer agrees failures failed t t view result Whole Looks
  starved_now t view result Whole Looks (y, is, same) =
      subst (λ z. TreeAnswer agrees failures failed t t view z Whole Looks) (sym (is ∙ ap Err same)) (record { reads = same_tree t; over_tree = tt; failed_at = refl })

  -- a call without a tree
  pub given_now : {V W : Type 0} (t : T) (view : V → W) (result : Result V Refusal) (Gave Whole : Outcomes W) (Looks : Paths)
      → ((files : Files) (listings : Listings) → GivesOrRefuses view result (Gave files listings)) → Within Gave Whole
      → TreeAnswer agrees failures failed t t view result Whole Looks
  given_now t view result Gave Whole Looks h then = record {
    reads = same_tree t;
    over_tree = over_tree_given (agrees t) (failures t < failures t) view result Gave Whole (λ files listings o a k. then files listings o k) h;
    failed_at = gives_unfailed view result (Gave (λ path. None) (λ path. None)) (failed t) (failed t) (λ at. InEachPair (agrees t) (λ files listings. Looks files listings at))
        (h (λ path. None) (λ path. None)) refl;
  }

  module _ {old new : T} where
    -- ---- by one call

    -- the same answer, of wider outcomes
    pub widened : {V W : Type 0} (view : V → W) (result : Result V Refusal) (First Whole : Outcomes W) (Looks Wider : Paths)
        → TreeAnswer agrees failures failed old new view result First Looks → Within First Whole → LooksWithin Looks Wider
        → TreeAnswer agrees failures failed old new view result Whole Wider
    widened view result First Whole Looks Wider h then wider = record {
      reads = h.reads;
      over_tree = over_tree_same (agrees new) (failures old < failures new) (failures old < failures new) view result
          First Whole (λ q. q) (λ files listings o a k. then files listings o k) h.over_tree;
      failed_at = fails_last is_failure (failed old) (failed old) (failed new) result (λ at. InEachPair (agrees new) (λ files listings. Looks files listings at))
          (λ at. InEachPair (agrees new) (λ files listings. Wider files listings at)) refl (λ at k files listings a. wider files listings at (k files listings a)) h.failed_at;
    }

    -- the answer for a value is that for what equals it
    pub answers_of : {A V W : Type 0} (x y : A) → x ≡ y → (view : V → W) (result : Result V Refusal) (Whole : A → Outcomes W) (Looks : A → Paths)
        → TreeAnswer agrees failures failed old new view result (Whole y) (Looks y) → TreeAnswer agrees failures failed old new view result (Whole x) (Looks x)
    answers_of x y is view result Whole Looks h = subst (λ z. TreeAnswer agrees failures failed old new view result (Whole z) (Looks z)) (sym is) h

    -- its refusal
    pub refused : {X Y V W : Type 0} (view : X → Y) (e : Refusal) (First : Outcomes Y) (Looks : Paths) (view' : V → W) (result : Result V Refusal) (Whole : Outcomes W) (Wider : Paths)
        → IsRefusal result e → TreeAnswer agrees failures failed old new view (Err e) First Looks → RefusedWithin First Whole → LooksWithin Looks Wider
        → TreeAnswer agrees failures failed old new view' result Whole Wider
    refused view e First Looks view' result Whole Wider (y, is, same) h then wider =
        subst (λ z. TreeAnswer agrees failures failed old new view' z Whole Wider) (sym (is ∙ ap Err same)) (record {
          reads = h.reads;
          over_tree = over_tree_refused (agrees new) (failures old < failures new) (failures old < failures new) view
              view' e First Whole (λ q. q) (λ files listings r a k. then files listings r k) h.over_tree;
          failed_at = fails_then (is_failure e) (is_failure e) (failed old) (failed old) (failed new) (λ at. InEachPair (agrees new) (λ files listings. Looks files listings at))
              (λ at. InEachPair (agrees new) (λ files listings. Wider files listings at)) refl refl (λ at k files listings a. wider files listings at (k files listings a)) h.failed_at;
        })

    -- ---- after a call that gave a value

    -- a value
    pub then_answers : {X Y V W : Type 0} (view : X → Y) (x : X) (First : Outcomes Y) (Looks : Paths) (view' : V → W) (v : V) (Whole : Outcomes W) (Wider : Paths)
        → TreeAnswer agrees failures failed old new view (Ok x) First Looks
        → ((files : Files) (listings : Listings) → First files listings (Ok (view x)) → Whole files listings (Ok (view' v)))
        → TreeAnswer agrees failures failed old new view' (Ok v) Whole Wider
    then_answers view x First Looks view' v Whole Wider h then = record {
      reads = h.reads;
      over_tree = λ files listings a. then files listings (h.over_tree files listings a);
      failed_at = h.failed_at;
    }

    -- a call without a tree
    pub then_given : {X Y V W : Type 0} (view : X → Y) (x : X) (First : Outcomes Y) (Looks : Paths) (view' : V → W) (result : Result V Refusal) (Gave Whole : Outcomes W) (Wider : Paths)
        → TreeAnswer agrees failures failed old new view (Ok x) First Looks
        → ((files : Files) (listings : Listings) → GivesOrRefuses view' result (Gave files listings))
        → ((files : Files) (listings : Listings) → First files listings (Ok (view x)) → (o : Result W RequestReason) → Gave files listings o → Whole files listings o)
        → TreeAnswer agrees failures failed old new view' result Whole Wider
    then_given view x First Looks view' result Gave Whole Wider h given then = record {
      reads = h.reads;
      over_tree = over_tree_given (agrees new) (failures old < failures new) view' result Gave Whole (λ files listings o a k. then files listings (h.over_tree files listings a) o k) given;
      failed_at = gives_unfailed view' result (Gave (λ path. None) (λ path. None)) (failed old) (failed new) (λ at. InEachPair (agrees new) (λ files listings. Wider files listings at))
          (given (λ path. None) (λ path. None)) h.failed_at;
    }

    -- another call over the tree
    pub then_another : {X Y V W : Type 0} {last : T} (view : X → Y) (x : X) (First : Outcomes Y) (Looks : Paths)
        (view' : V → W) (result : Result V Refusal) (Second Whole : Outcomes W) (Looks' Wider : Paths)
        → TreeAnswer agrees failures failed old new view (Ok x) First Looks → TreeAnswer agrees failures failed new last view' result Second Looks'
        → ((files : Files) (listings : Listings) → First files listings (Ok (view x)) → (o : Result W RequestReason) → Second files listings o → Whole files listings o)
        → ((files : Files) (listings : Listings) → First files listings (Ok (view x)) → (at : Text) → Looks' files listings at → Wider files listings at)
        → TreeAnswer agrees failures failed old last view' result Whole Wider
    then_another {last = last} view x First Looks view' result Second Whole Looks' Wider h k then wider = record {
      reads = reads_both old new last h.reads k.reads;
      over_tree = over_tree_same (agrees last) (failures new < failures last) (failures old < failures last) view' result Second Whole (λ q. omega (arith, h.reads.counts_failures))
          (λ files listings o a s. then files listings (h.over_tree files listings (k.reads.narrows files listings a)) o s) k.over_tree;
      failed_at = fails_last is_failure (failed old) (failed new) (failed last) result (λ at. InEachPair (agrees last) (λ files listings. Looks' files listings at))
          (λ at. InEachPair (agrees last) (λ files listings. Wider files listings at)) h.failed_at
          (λ at s files listings a. wider files listings (h.over_tree files listings (k.reads.narrows files listings a)) at (s files listings a)) k.failed_at;
    }

  -- ---- one call after the other

  module _ {W : Type 0} {Whole : Outcomes W} {Wider : Paths} where
    module _ {old mid : T} {Rest : Outcomes W} {Looks : Paths} (leads : Leads agrees failures failed old mid Rest Whole Looks Wider) where
      -- after one more
      pub leads_on : {X Y : Type 0} {new : T} (view : X → Y) (x : X) (First : Outcomes Y) (Looks' : Paths)
          (Left : Outcomes W) (Looks-left : Paths) → TreeAnswer agrees failures failed mid new view (Ok x) First Looks'
          → ((files : Files) (listings : Listings) → First files listings (Ok (view x)) → (o : Result W RequestReason) → Left files listings o → Rest files listings o)
          → ((files : Files) (listings : Listings) → First files listings (Ok (view x)) → (at : Text) → Looks-left files listings at → Looks files listings at)
          → Leads agrees failures failed old new Left Whole Looks-left Wider
      leads_on {new = new} view x First Looks' Left Looks-left h then wider = record {
        reads = reads_both old mid new leads.reads h.reads;
        comes = λ files listings a o k. leads.comes files listings (h.reads.narrows files listings a) o (then files listings (h.over_tree files listings a) o k);
        looks = λ files listings a at k. leads.looks files listings (h.reads.narrows files listings a) at (wider files listings (h.over_tree files listings a) at k);
        unfailed = h.failed_at ∙ leads.unfailed;
      }

      -- where one is refused
      pub leads_refused : {X Y V : Type 0} {new : T} (view : X → Y) (e : Refusal) (First : Outcomes Y) (Looks' : Paths) (view' : V → W) (result : Result V Refusal)
          → IsRefusal result e → TreeAnswer agrees failures failed mid new view (Err e) First Looks' → RefusedWithin First Rest → LooksWithin Looks' Looks
          → TreeAnswer agrees failures failed old new view' result Whole Wider
      leads_refused {new = new} view e First Looks' view' result (y, is, same) h then wider =
          subst (λ z. TreeAnswer agrees failures failed old new view' z Whole Wider) (sym (is ∙ ap Err same)) (record {
            reads = reads_both old mid new leads.reads h.reads;
            over_tree = over_tree_refused (agrees new) (failures mid < failures new) (failures old < failures new) view view' e First Whole (λ q. omega (arith, leads.reads.counts_failures))
                (λ files listings r a k. leads.comes files listings (h.reads.narrows files listings a) (Err r) (then files listings r k)) h.over_tree;
            failed_at = fails_then (is_failure e) (is_failure e) (failed old) (failed mid) (failed new) (λ at. InEachPair (agrees new) (λ files listings. Looks' files listings at))
                (λ at. InEachPair (agrees new) (λ files listings. Wider files listings at)) leads.unfailed refl
                (λ at k files listings a. leads.looks files listings (h.reads.narrows files listings a) at (wider files listings at (k files listings a))) h.failed_at;
          })

      -- where none is left
      pub leads_last : {V : Type 0} (view : V → W) (v : V)
          → ((files : Files) (listings : Listings) → Rest files listings (Ok (view v)))
          → TreeAnswer agrees failures failed old mid view (Ok v) Whole Wider
      leads_last view v h = record { reads = leads.reads; over_tree = λ files listings a. leads.comes files listings a (Ok (view v)) (h files listings); failed_at = leads.unfailed }
