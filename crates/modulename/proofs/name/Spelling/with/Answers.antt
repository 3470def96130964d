use Rattle.std.proofs.Common.{◌≡◌, ◌≢◌, ◌⊎◌, ℕ, Bool, true, false, inl, inr, sym, ◌∙◌}
use Rattle.modulename.proofs.SpellingLemmas.{refused_slash, taken_byte}
use Rattle.modulename.proofs.name.Spelling.with.Goals as goal
use Rattle.modulename.proofs.name.Spelling.with.Goals.{then-self-via-then-self, then-self-via-else-self+then-self-eq1}

-- where a part begins, no point
no_point : (begins : Bool) (b : ℕ) → (begins ≡ true × (b ≡ 46 → ⊥)) ⊎ (begins ≡ false) → begins ≡ true → b ≢ 46
no_point begins b (inl h) e = h.1
no_point begins b (inr h) e = absurd (cc)

pub returns-then-self-clause-next : goal.returns-then-self-clause-next
returns-then-self-clause-next c =
    refused_slash c.args.self.begins c.args.self.parts c.args.b c.if-b-eq47.true
    (elim c.then-self.branch [
      | then-self-via-then-self w ↦ inl w.if-self.true
      | then-self-via-else-self+then-self-eq1 w ↦ inr w.if-self-eq1.true
    ])

pub returns-clause-next : goal.returns-clause-next
returns-clause-next c =
    taken_byte c.args.self.begins c.args.self.parts c.args.b c.if-b-eq47.false (sym c.is_forbidden.ensures ∙ c.if-is_forbidden.false)
    (no_point c.args.self.begins c.args.b c.if-b-eq46.either)
