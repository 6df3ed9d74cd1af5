-- The core's questions meet what serial order asks for: each is a statement that is run or described.
use Rattle.std.proofs.Common.{◌≡◌, ℕ, List, [], ◌∷◌, refl, sym, ap, subst, ◌∙◌, Option, Some, None, true}
use Rattle.row_values.specs.Schema.{Schema}
use Rattle.tables.specs.Change.{Change}
use Rattle.tables.specs.Tables.{Store, apply}
use Rattle.tables.specs.View.{is_store}
use Rattle.unit_locks.specs.Claim.{Claim}
use Rattle.unit_locks.specs.Claims.{all_added}
use Rattle.core_calls.specs.declared.sql_fault.SqlFault.TheVariants as fault
use Rattle.sql_semantics.specs.Scope.{table_name}
use Rattle.sql_semantics.specs.Meaning.{Answer as Meant, Refused}
use Rattle.sql_semantics.specs.Frame.{CoveredIsEnough, changes_of}
use Rattle.core_model.specs.Asked.{Question, answer_to, changes_by, claims_of, described_claims as core_described, describing, meant, querying, running, told}
use Rattle.sql_semantics.specs.Describe.{described}
use Rattle.serializability.specs.Words.{AllWithin, In, Laws, apply_all}
use Rattle.serializability.proofs.Order.{sound_all}
use Rattle.serializability.specs.SqlWords.{Answer, Call, Describe, Run, Seen, Told, Within, bytes_left, call_changes, call_claims, described_claims, sql_words}
use Rattle.serializability.specs.CoreWords.{core_words}

abbrev un_told : Answer → Meant
un_told (Told m) = m
un_told (Seen o) = Refused fault.Syntax

abbrev un_seen : Answer → Option Schema
un_seen (Told m) = None
un_seen (Seen o) = o

abbrev call_of : Question → Call
call_of (running s ps) = Run ps s.command
call_of (querying s ps) = Run ps s.command
call_of (describing s side) = Describe s.command

same_described : (n : List ℕ) (o : Option Schema) → core_described n o ≡ described_claims n o
same_described n None = refl
same_described n (Some schema) = refl

claims_are : (q : Question) (s : Store) → claims_of q s ≡ call_claims (call_of q) s
claims_are (running t ps) s = refl
claims_are (querying t ps) s = refl
claims_are (describing t side) s = same_described (table_name t.command) _

same_all : (xs : List Change) (s : Store) → apply_all core_words xs s ≡ apply_all sql_words xs s
same_all [] s = refl
same_all (x ∷ xs) s = same_all xs (apply x s)

module _ (l : Laws sql_words) (enough : CoveredIsEnough) where
  agreed : (q : Question) (s t : Store) → l.Agree (claims_of q s) s t → l.Agree (call_claims (call_of q) s) s t
  agreed q s t h = subst (λ (cs : List Claim). l.Agree cs s t) (claims_are q s) h

  same_claims : (q : Question) (s t : Store) → is_store s ≡ true → is_store t ≡ true → l.Agree (claims_of q s) s t → claims_of q s ≡ claims_of q t
  same_claims q s t good_s good_t h = claims_are q s ∙ l.same_claims (call_of q) s t good_s good_t (agreed q s t h) ∙ sym (claims_are q t)

  same_answer : (q : Question) (xs : List Change) (s t : Store) → is_store s ≡ true → is_store t ≡ true → l.Agree (claims_of q s) s t → answer_to q (bytes_left xs) s ≡ answer_to q (bytes_left xs) t
  same_answer (running r ps) xs s t good_s good_t h =
      ap meant (sym (enough ps (bytes_left xs) r.command s good_s)) ∙ ap (λ a. meant (un_told a)) (l.same_answer (Run ps r.command) xs s t good_s good_t h) ∙ ap meant (enough ps (bytes_left xs) r.command t good_t)
  same_answer (querying r ps) xs s t good_s good_t h =
      ap meant (sym (enough ps (bytes_left xs) r.command s good_s)) ∙ ap (λ a. meant (un_told a)) (l.same_answer (Run ps r.command) xs s t good_s good_t h) ∙ ap meant (enough ps (bytes_left xs) r.command t good_t)
  same_answer (describing r side) xs s t good_s good_t h =
      ap (λ a. told (described side r.command (un_seen a))) (l.same_answer (Describe r.command) xs s t good_s good_t (agreed (describing r side) s t h))

  same_changes : (q : Question) (xs : List Change) (s t : Store) → is_store s ≡ true → is_store t ≡ true → l.Agree (claims_of q s) s t → changes_by q (bytes_left xs) s ≡ changes_by q (bytes_left xs) t
  same_changes (running r ps) xs s t good_s good_t h =
      ap changes_of (sym (enough ps (bytes_left xs) r.command s good_s)) ∙ l.same_changes (Run ps r.command) xs s t good_s good_t h ∙ ap changes_of (enough ps (bytes_left xs) r.command t good_t)
  same_changes (querying r ps) xs s t good_s good_t h =
      ap changes_of (sym (enough ps (bytes_left xs) r.command s good_s)) ∙ l.same_changes (Run ps r.command) xs s t good_s good_t h ∙ ap changes_of (enough ps (bytes_left xs) r.command t good_t)
  same_changes (describing r side) xs s t good_s good_t h = refl

  run_lies : (q : Question) (xs : List Change) (cs : List Claim) (s : Store) (x : Change) → is_store s ≡ true → AllWithin sql_words s xs cs
      → (let v = apply_all core_words xs s in In x (call_changes (call_of q) (bytes_left xs) v) → Within s x (all_added cs (claims_of q v)))
  run_lies q xs cs s x good own i =
      let same = same_all xs s in
      let v = apply_all sql_words xs s in
      let j = subst (λ (t : Store). In x (call_changes (call_of q) (bytes_left xs) t)) same i in
      let w : Within s x (all_added cs (call_claims (call_of q) v)) = l.lies (call_of q) xs cs s x good own j in
      subst (λ (t : Store). Within s x (all_added cs (claims_of q t))) (sym same) (subst (λ (ds : List Claim). Within s x (all_added cs ds)) (sym (claims_are q v)) w)

  good_view : (xs : List Change) (cs : List Claim) (s : Store) → is_store s ≡ true → AllWithin sql_words s xs cs → is_store (apply_all core_words xs s) ≡ true
  good_view xs cs s good own = subst (λ (t : Store). is_store t ≡ true) (sym (same_all xs s)) (sound_all sql_words l xs cs s good own)

  lies : (q : Question) (xs : List Change) (cs : List Claim) (s : Store) (x : Change) → is_store s ≡ true → AllWithin sql_words s xs cs
      → (let v = apply_all core_words xs s in In x (changes_by q (bytes_left xs) v) → Within s x (all_added cs (claims_of q v)))
  lies (running r ps) xs cs s x good own i =
      run_lies (running r ps) xs cs s x good own (subst (λ (a : Meant). In x (changes_of a)) (sym (enough ps (bytes_left xs) r.command (apply_all core_words xs s) (good_view xs cs s good own))) i)
  lies (querying r ps) xs cs s x good own i =
      run_lies (querying r ps) xs cs s x good own (subst (λ (a : Meant). In x (changes_of a)) (sym (enough ps (bytes_left xs) r.command (apply_all core_words xs s) (good_view xs cs s good own))) i)
  lies (describing r side) xs cs s x good own i = absurd i

  pub core_laws : Laws core_words
  core_laws = record {
    Agree = l.Agree;
    agree_refl = l.agree_refl;
    agree_trans = l.agree_trans;
    agree_fewer = l.agree_fewer;
    clash_sym = l.clash_sym;
    added_old = l.added_old;
    added_new = l.added_new;
    added_only = l.added_only;
    Grows = l.Grows;
    grows_refl = l.grows_refl;
    grows_trans = l.grows_trans;
    grows_apply = l.grows_apply;
    sound_apply = l.sound_apply;
    within_grows = l.within_grows;
    within_more = l.within_more;
    foreign = l.foreign;
    own = l.own;
    same_claims = same_claims;
    same_answer = same_answer;
    same_changes = same_changes;
    lies = lies;
  }
