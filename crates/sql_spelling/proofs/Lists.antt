-- A list that is written is of the rule of lists.
use Rattle.std.proofs.Common.{◌≡◌, ◌<◌, ℕ, arith, length, List, [], ◌∷◌, ◌++◌, refl, sym, ap, ◌∙◌, subst, append_assoc}
use Rattle.std.proofs.lemmas.List.{append-nil}
use Rattle.sql_lex.specs.Markers.{markers_in}
use Rattle.sql_lex.specs.Tokens.{Lexeme}
use Rattle.sql_lex.specs.declared.terminal.Terminal.TheVariants as w
use Rattle.sql_text.specs.Grammar.{The, IsList}
use Rattle.sql_spelling.specs.Text.{separated}
use Rattle.sql_spelling.proofs.Cutting.{lexed, comma_cut}
use Rattle.sql_spelling.proofs.Writing.{Writes}

-- the one list has for each item of the other one that stands for it
abbrev pub AreFor : {A B : Type 0} → (A → B → Type 0) → List A → List B → Type 0
AreFor Q [] [] = Unit {0}
AreFor Q (a ∷ us) (b ∷ bs) = Q a b × AreFor Q us bs
AreFor Q _ _ = ⊥

-- each is written of a rule
abbrev pub EachWrites : {B : Type 0} → (B → List Lexeme → List Lexeme → Type 0) → (B → List ℕ) → List B → Type 0
EachWrites R f [] = Unit {0}
EachWrites R f (b ∷ bs) = Writes (R b) (f b) × EachWrites R f bs

module _ {A B : Type 0} (J : A → List Lexeme → List Lexeme → Type 0) (Q : A → B → Type 0) where
  -- something of the rule that stands for this
  abbrev pub One : B → List Lexeme → List Lexeme → Type 0
  One b ts rest = (a : A) × Q a b × J a ts rest

  -- a list of the rule that stands for these
  abbrev pub Standing : List B → List Lexeme → List Lexeme → Type 0
  Standing bs ts rest = (us : List A) × AreFor Q us bs × IsList J (The w.Comma) us ts rest

  with_first : (a : A) (b c : B) (us : List A) (bs : List B) (ts mid after rest : List Lexeme) → Q a b → J a ts mid → The w.Comma mid after → AreFor Q us (c ∷ bs) → IsList J (The w.Comma) us after rest → Standing (b ∷ c ∷ bs) ts rest
  with_first a b c [] bs ts mid after rest q j comma are list = absurd are
  with_first a b c (x ∷ us) bs ts mid after rest q j comma are list = (a ∷ x ∷ us, (q, are), (mid, j, (after, comma, list)))

  pub listed : (f : B → List ℕ) (b : B) (bs : List B) → EachWrites One f (b ∷ bs) → Writes (Standing (b ∷ bs)) (separated f (b ∷ bs))
  listed f b [] (x, xs) =
      let same : f b ++ [] ≡ f b = append-nil (f b) in
      let W : List ℕ → Type 0 = λ u. Writes (Standing (b ∷ [])) u in
      subst W (sym same) (record {
        reads = λ rest e. alone rest (x.reads rest e);
        marks = x.marks;
      })
    where
      alone : (rest : List ℕ) → One b (lexed (f b ++ rest)) (lexed rest) → Standing (b ∷ []) (lexed (f b ++ rest)) (lexed rest)
      alone rest (a, q, j) = (a ∷ [], (q, tt), j)
  listed f b (c ∷ bs) (x, xs) = more (listed f c bs xs)
    where
      more : Writes (Standing (c ∷ bs)) (separated f (c ∷ bs)) → Writes (Standing (b ∷ c ∷ bs)) (f b ++ (44 ∷ 32 ∷ separated f (c ∷ bs)))
      more y = record {
        reads = λ rest e.
            let P : List ℕ → Type 0 = λ u. Standing (b ∷ c ∷ bs) (lexed u) (lexed rest) in
            subst P (sym (append_assoc (f b) (44 ∷ 32 ∷ separated f (c ∷ bs)) rest)) (joined rest (x.reads (44 ∷ 32 ∷ (separated f (c ∷ bs) ++ rest)) refl) (y.reads rest e));
        marks = λ rest e.
            ap (λ u. markers_in (lexed u)) (append_assoc (f b) (44 ∷ 32 ∷ separated f (c ∷ bs)) rest)
            ∙ x.marks (44 ∷ 32 ∷ (separated f (c ∷ bs) ++ rest)) refl ∙ ap markers_in (comma_cut (32 ∷ (separated f (c ∷ bs) ++ rest))) ∙ y.marks rest e;
      }
        where
          joined : (rest : List ℕ) → One b (lexed (f b ++ (44 ∷ 32 ∷ (separated f (c ∷ bs) ++ rest)))) (lexed (44 ∷ 32 ∷ (separated f (c ∷ bs) ++ rest))) → Standing (c ∷ bs) (lexed (separated f (c ∷ bs) ++ rest)) (lexed rest) → Standing (b ∷ c ∷ bs) (lexed (f b ++ (44 ∷ 32 ∷ (separated f (c ∷ bs) ++ rest)))) (lexed rest)
          joined rest (a, q, j) (us, are, list) = with_first a b c us bs _ _ _ _ q j (_, comma_cut (32 ∷ (separated f (c ∷ bs) ++ rest))) are list

  pub some_listed : (f : B → List ℕ) (bs : List B) → 0 < length bs → EachWrites One f bs → Writes (Standing bs) (separated f bs)
  some_listed f [] some all = absurd (omega arith)
  some_listed f (b ∷ bs) some all = listed f b bs all
