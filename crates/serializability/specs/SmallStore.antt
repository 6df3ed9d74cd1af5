-- A small store that meets what the law asks for: tables with a schema, a number, and rows, numbers by
-- numbers. Table 0 is none; a claim of all of it is one of the list of tables.
use Rattle.std.specs.Prelude.{ℕ, ◌+◌, Bool, true, false, Option, None, Some, List, [], ◌∷◌, ◌++◌, ◌==◌, if◌then◌else◌, nat_lt}
use Rattle.serializability.specs.Words.{Words, In}

pub record SmallStore : Type 0 where
  pub schemas : ℕ → Option ℕ
  pub rows : ℕ → ℕ → Option ℕ
  pub count : ℕ

pub data Change : Type 0 where
  create : ℕ → ℕ → Change
  -- the row of a key, None to take it out
  set_row : ℕ → ℕ → Option ℕ → Change

pub record Claim : Type 0 where
  pub is_write : Bool
  pub table : ℕ
  -- None for all of the table
  pub key : Option ℕ

pub data Call : Type 0 where
  Describe : (table : ℕ) → Call
  Get : (table key : ℕ) → Call
  Scan : (table : ℕ) → Call
  Insert : (table key value : ℕ) → Call
  Update : (table key value : ℕ) → Call
  Delete : (table key : ℕ) → Call
  Create : (table schema : ℕ) → Call

pub data Answer : Type 0 where
  NoTable : Answer
  IsThere : Answer
  IsFull : Answer
  Schema : Option ℕ → Answer
  Row : Option ℕ → Answer
  Rows : (ℕ → Option ℕ) → Answer
  Changed : ℕ → Answer

abbrev pub is_there : Option ℕ → Bool
is_there None = false
is_there (Some n) = true

abbrev pub first_of_both : Option ℕ → ℕ → ℕ
first_of_both None n = n
first_of_both (Some m) n = m

-- a table that is there is not created again, and into no table nothing is put
abbrev pub apply : Change → SmallStore → SmallStore
apply (create t n) s = record {
  schemas = λ x. if x == t then Some (first_of_both (s.schemas t) n) else s.schemas x;
  rows = s.rows;
  count = if is_there (s.schemas t) then s.count else s.count + 1;
}
apply (set_row t k v) s = record {
  schemas = s.schemas;
  rows = λ x y. if is_there (s.schemas t) then (if x == t then (if y == k then v else s.rows x y) else s.rows x y) else s.rows x y;
  count = s.count;
}

-- ---- claims

abbrev pub overlaps : Option ℕ → Option ℕ → Bool
overlaps None q = true
overlaps (Some a) None = true
overlaps (Some a) (Some b) = a == b

abbrev pub hits : Claim → Claim → Bool
hits c d = if c.table == d.table then overlaps c.key d.key else false

abbrev pub clash : Claim → Claim → Bool
clash c d = if c.is_write then hits c d else if d.is_write then hits c d else false

abbrev pub reads : ℕ → Option ℕ → Claim
reads t k = record { is_write = false; table = t; key = k }

abbrev pub writes : ℕ → Option ℕ → Claim
writes t k = record { is_write = true; table = t; key = k }

abbrev pub table_of : Call → ℕ
table_of (Describe t) = t
table_of (Get t k) = t
table_of (Scan t) = t
table_of (Insert t k v) = t
table_of (Update t k v) = t
table_of (Delete t k) = t
table_of (Create t n) = t

-- where there is a table
abbrev pub found_claims : Call → List Claim
found_claims (Describe t) = []
found_claims (Get t k) = reads t (Some k) ∷ []
found_claims (Scan t) = reads t None ∷ []
found_claims (Insert t k v) = writes t (Some k) ∷ []
found_claims (Update t k v) = writes t (Some k) ∷ []
found_claims (Delete t k) = writes t (Some k) ∷ []
found_claims (Create t n) = writes t None ∷ writes 0 None ∷ []

abbrev pub absent_claims : Call → List Claim
absent_claims (Create t n) = writes t None ∷ writes 0 None ∷ []
absent_claims call = reads (table_of call) None ∷ []

-- by the schema of the call's table
abbrev pub claims_at : Call → Option ℕ → List Claim
claims_at call None = absent_claims call
claims_at call (Some n) = found_claims call

-- ---- what a call is answered, and what it changes

pub record Meaning : Type 0 where
  pub answer : Answer
  pub changes : List Change

abbrev pub says : Answer → Meaning
says a = record { answer = a; changes = [] }

abbrev pub does : Change → ℕ → Meaning
does x n = record { answer = Changed n; changes = x ∷ [] }

-- by the rows of the table
abbrev pub found : Call → ℕ → (ℕ → Option ℕ) → Meaning
found (Describe t) n rows = says (Schema (Some n))
found (Get t k) n rows = says (Row (rows k))
found (Scan t) n rows = says (Rows rows)
found (Insert t k v) n rows = if is_there (rows k) then says IsThere else does (set_row t k (Some v)) 1
found (Update t k v) n rows = if is_there (rows k) then does (set_row t k (Some v)) 1 else says (Changed 0)
found (Delete t k) n rows = if is_there (rows k) then does (set_row t k None) 1 else says (Changed 0)
found (Create t m) n rows = says IsThere

-- by the number of tables
abbrev pub absent : Call → ℕ → Meaning
absent (Create t n) count = if nat_lt count 1000 then does (create t n) 0 else says IsFull
absent call count = says NoTable

abbrev pub meaning_at : Call → Option ℕ → (ℕ → Option ℕ) → ℕ → Meaning
meaning_at call None rows count = absent call count
meaning_at call (Some n) rows count = found call n rows

abbrev pub meaning : Call → SmallStore → Meaning
meaning call s = meaning_at call (s.schemas (table_of call)) (s.rows (table_of call)) s.count

-- a creation lies in write claims of all of its table, and of the list of tables
abbrev pub Within : Change → List Claim → Type 0
Within (create t n) cs = In (writes t None) cs × In (writes 0 None) cs
Within (set_row t k v) cs = In (writes t (Some k)) cs

abbrev pub small_words : Words
small_words = record {
  Store = SmallStore;
  Change = Change;
  Claim = Claim;
  Call = Call;
  Answer = Answer;
  apply = apply;
  clash = clash;
  added = λ cs ds. cs ++ ds;
  is_full = λ cs. false;
  claims = λ call s. claims_at call (s.schemas (table_of call));
  answer = λ call xs s. (meaning call s).answer;
  changes = λ call xs s. (meaning call s).changes;
  Sound = λ s. Unit {0};
  Within = λ s x cs. Within x cs;
}
