-- What is found in sections of which one is changed.
use Rattle.std.proofs.Common.{◌≡◌, ◌≢◌, ℕ, Bool, true, false, cond, List, [], ◌∷◌, ◌++◌, map, Option, None, Some, is_some, refl, sym, ap, ◌∙◌}
use Rattle.std.specs.Prelude.{bytes_eq}
use Rattle.std.specs.Option.{option_and_then, option_map}
use Rattle.std.specs.Map.{lookup}
use Rattle.std.proofs.lemmas.Slice.Eq.{bytes_eq-Decides}
use Rattle.sections.specs.Cursors.{changed_at, closed, with_statement}
use Rattle.sections.specs.Units.{cursor_ended, section_ended}
use Rattle.sections.specs.Kept.{Cursor, Preparation, Section}

abbrev pub Named : Type 0
Named = List (List ℕ × Section)

-- under another name the same is found
pub elsewhere : (name other : List ℕ) (change : Section → Section) (xs : Named) → name ≢ other → lookup (bytes_eq other) (changed_at name change xs) ≡ lookup (bytes_eq other) xs
elsewhere name other change [] apart = refl
elsewhere name other change (x ∷ xs) apart = by (bytes_eq name x.0) refl (bytes_eq other x.0) refl (elsewhere name other change xs apart)
  where
    by : (b : Bool) → bytes_eq name x.0 ≡ b → (c : Bool) → bytes_eq other x.0 ≡ c → lookup (bytes_eq other) (changed_at name change xs) ≡ lookup (bytes_eq other) xs
        → lookup (bytes_eq other) (cond b ((x.0, change x.1) ∷ xs) (x ∷ changed_at name change xs)) ≡ lookup (bytes_eq other) (x ∷ xs)
    by true is true same rest = absurd (apart ((bytes_eq-Decides name x.0).0 is ∙ sym ((bytes_eq-Decides other x.0).0 same)))
    by true is false same rest =
        ap (λ (c : Bool). cond c (Some (change x.1)) (lookup (bytes_eq other) xs)) same ∙ sym (ap (λ (c : Bool). cond c (Some x.1) (lookup (bytes_eq other) xs)) same)
    by false is c same rest = ap (λ o. cond (bytes_eq other x.0) (Some x.1) o) rest

-- under the name the changed one is found
pub here : (name : List ℕ) (change : Section → Section) (xs : Named) → lookup (bytes_eq name) (changed_at name change xs) ≡ option_map change (lookup (bytes_eq name) xs)
here name change [] = refl
here name change (x ∷ xs) = by (bytes_eq name x.0) refl (here name change xs)
  where
    by : (b : Bool) → bytes_eq name x.0 ≡ b → lookup (bytes_eq name) (changed_at name change xs) ≡ option_map change (lookup (bytes_eq name) xs)
        → lookup (bytes_eq name) (cond b ((x.0, change x.1) ∷ xs) (x ∷ changed_at name change xs)) ≡ option_map change (cond b (Some x.1) (lookup (bytes_eq name) xs))
    by true is rest = ap (λ (c : Bool). cond c (Some (change x.1)) (lookup (bytes_eq name) xs)) is
    by false is rest = ap (λ (c : Bool). cond c (Some x.1) (lookup (bytes_eq name) (changed_at name change xs))) is ∙ rest

-- each section changed
pub everywhere : (name : List ℕ) (change : Section → Section) (xs : Named) → lookup (bytes_eq name) (map (λ named. (named.0, change named.1)) xs) ≡ option_map change (lookup (bytes_eq name) xs)
everywhere name change [] = refl
everywhere name change (x ∷ xs) = by (bytes_eq name x.0) (everywhere name change xs)
  where
    by : (b : Bool) → lookup (bytes_eq name) (map (λ named. (named.0, change named.1)) xs) ≡ option_map change (lookup (bytes_eq name) xs)
        → cond b (Some (change x.1)) (lookup (bytes_eq name) (map (λ named. (named.0, change named.1)) xs)) ≡ option_map change (cond b (Some x.1) (lookup (bytes_eq name) xs))
    by true rest = refl
    by false rest = rest

abbrev pub cursor_in : Option Section → Option Cursor
cursor_in section = option_and_then (λ (s : Section). s.cursor) section

either : (c : Bool) (a b : Section) (o p : Option Section) → a.cursor ≡ b.cursor → cursor_in o ≡ cursor_in p → cursor_in (cond c (Some a) o) ≡ cursor_in (cond c (Some b) p)
either true a b o p same rest = same
either false a b o p same rest = rest

-- a change that leaves a cursor leaves all of them
kept : (name other : List ℕ) (change : Section → Section) → ((section : Section) → (change section).cursor ≡ section.cursor) → (xs : Named)
    → cursor_in (lookup (bytes_eq other) (changed_at name change xs)) ≡ cursor_in (lookup (bytes_eq other) xs)
kept name other change keeps [] = refl
kept name other change keeps (x ∷ xs) = by (bytes_eq name x.0) (kept name other change keeps xs)
  where
    by : (b : Bool) → cursor_in (lookup (bytes_eq other) (changed_at name change xs)) ≡ cursor_in (lookup (bytes_eq other) xs)
        → cursor_in (lookup (bytes_eq other) (cond b ((x.0, change x.1) ∷ xs) (x ∷ changed_at name change xs))) ≡ cursor_in (lookup (bytes_eq other) (x ∷ xs))
    by true rest = either (bytes_eq other x.0) (change x.1) x.1 (lookup (bytes_eq other) xs) (lookup (bytes_eq other) xs) (keeps x.1) refl
    by false rest = either (bytes_eq other x.0) x.1 x.1 (lookup (bytes_eq other) (changed_at name change xs)) (lookup (bytes_eq other) xs) refl rest

lone : (b : Bool) (section : Section) → section.cursor ≡ None → cursor_in (cond b (Some section) None) ≡ None
lone true section none = none
lone false section none = refl

-- and so does a section without one that comes last
last : (name other : List ℕ) (section : Section) (xs : Named) → section.cursor ≡ None → cursor_in (lookup (bytes_eq other) (xs ++ (name, section) ∷ [])) ≡ cursor_in (lookup (bytes_eq other) xs)
last name other section [] none = lone (bytes_eq other name) section none
last name other section (x ∷ xs) none =
    either (bytes_eq other x.0) x.1 x.1 (lookup (bytes_eq other) (xs ++ (name, section) ∷ [])) (lookup (bytes_eq other) xs) refl (last name other section xs none)

pub prepared_keeps : (p : Preparation) (xs : Named) (other : List ℕ) → cursor_in (lookup (bytes_eq other) (with_statement p xs)) ≡ cursor_in (lookup (bytes_eq other) xs)
prepared_keeps p xs other = by (is_some (lookup (bytes_eq p.name) xs))
  where
    by : (b : Bool) → cursor_in (lookup (bytes_eq other) (cond b (changed_at p.name (λ section. record section { statement = p.statement; is_held = p.is_held }) xs) (xs ++ (p.name, record { statement = p.statement; is_held = p.is_held; cursor = None }) ∷ []))) ≡ cursor_in (lookup (bytes_eq other) xs)
    by true = kept p.name other (λ section. record section { statement = p.statement; is_held = p.is_held }) (λ section. refl) xs
    by false = last p.name other (record { statement = p.statement; is_held = p.is_held; cursor = None }) xs refl

pub ended_in : (keeps_held : Bool) (o : Option Section) → cursor_in (option_map (section_ended keeps_held) o) ≡ option_and_then (cursor_ended keeps_held) (cursor_in o)
ended_in keeps_held None = refl
ended_in keeps_held (Some section) = refl

pub statement_stays : (keeps_held : Bool) (o : Option Section) → option_map (λ (s : Section). s.statement) (option_map (section_ended keeps_held) o) ≡ option_map (λ (s : Section). s.statement) o
statement_stays keeps_held None = refl
statement_stays keeps_held (Some section) = refl

pub closed_in : (o : Option Section) → cursor_in (option_map closed o) ≡ None
closed_in None = refl
closed_in (Some section) = refl
