-- A question that creates a table claims all names.
use Rattle.std.proofs.Common.{◌≡◌, inl, inr, ℕ, List, [], ◌∷◌, true, false, refl, sym, subst, None}
use Rattle.sql_text.specs.declared.tree.Command.{Command}
use Rattle.row_values.specs.Value.{Value}
use Rattle.row_values.specs.Schema.{Schema}
use Rattle.tables.specs.Change.{Change, create, put, remove}
use Rattle.tables.specs.Tables.{Store}
use Rattle.tables.specs.View.{is_store}
use Rattle.unit_locks.specs.Claim.{Claim}
use Rattle.unit_locks.specs.Claims.{In}
use Rattle.unit_locks.specs.declared.access.Access.TheVariants.{Write}
use Rattle.sql_semantics.specs.Scope.{claim, star}
use Rattle.sql_semantics.specs.Frame.{In as Among, CoveredIsEnough, Lies, changes_of, claims_in, covered_answer}
use Rattle.core_model.specs.Asked.{running, querying, describing}
use Rattle.recovery.specs.Places.{creates_none}
use Rattle.recovery.specs.QuestionPlaces.{CreationsClaimNames}

-- some change creates a table
abbrev Created : List Change → Type 0
Created xs = (name : List ℕ) × (schema : Schema) × Among (create name schema) xs

later : (x : Change) (xs : List Change) → Created xs → Created (x ∷ xs)
later x xs h = (h.0, h.1, inr h.2)

created : (xs : List Change) → creates_none xs ≡ false → Created xs
created [] h = absurd cc
created (create name schema ∷ xs) h = (name, schema, inl refl)
created (put name row ∷ xs) h = later (put name row) xs (created xs h)
created (remove name key ∷ xs) h = later (remove name key) xs (created xs h)

claimed : (c : Claim) (cs : List Claim) → Among c cs → In c cs
claimed c [] i = i
claimed c (d ∷ cs) (inl e) = inl e
claimed c (d ∷ cs) (inr i) = inr (claimed c cs i)

module _ (lies : Lies) (enough : CoveredIsEnough) where
  statement_claims : (params : List Value) (left : ℕ) (c : Command) (v : Store) → is_store v ≡ true → creates_none (changes_of (covered_answer params left c v)) ≡ false → In (claim Write star None) (claims_in params c v)
  statement_claims params left c v good some =
      let x = created (changes_of (covered_answer params left c v)) some in
      let i = subst (λ a. Among (create x.0 x.1) (changes_of a)) (sym (enough params left c v good)) x.2 in
      let w = lies params left c v (create x.0 x.1) good i in
      claimed (claim Write star None) (claims_in params c v) w.1

  pub creations_claim : CreationsClaimNames
  creations_claim (running s params) left v good some = statement_claims params left s.command v good some
  creations_claim (querying s params) left v good some = statement_claims params left s.command v good some
  creations_claim (describing s side) left v good some = absurd cc
