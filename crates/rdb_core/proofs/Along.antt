-- Reads that are made one after another.
use Rattle.std.proofs.Common.{◌≡◌, List, [], ◌∷◌, Result, Ok, Err, refl, subst, sym}
use Rattle.std.specs.Result.{IsErrAnd}
use Rattle.ahead_view.specs.Source.{LeavesReader}
use Rattle.ahead_view.specs.declared.source.ReadError.{ReadError}
use Rattle.ahead_view.specs.declared.source.ReadError.TheVariants as error
use Rattle.rdb_core.specs.Copied.{FailsOn, ReadsAlong, ReadsOn}

module _ {R : Type 0} (reads : R → R → Type 0) where
  pub none_read : (r : R) → ReadsOn reads r r
  none_read r = ([], refl)

  along : (before : R) (between : List R) (now after : R) → ReadsAlong reads before between now → reads now after → ReadsOn reads before after
  along before [] now after same read = (after ∷ [], (subst (λ (r : R). reads r after) same read, refl))
  along before (next ∷ later) now after made read =
      let more = along next later now after made.1 read in
      (next ∷ more.0, (made.0, more.1))

  -- and one read more
  pub read_on : (before now after : R) → ReadsOn reads before now → reads now after → ReadsOn reads before after
  read_on before now after made read = along before made.0 now after made.1 read

  module _ (fails_to_read : R → R → Type 0) where
    by_error : (A B : Type 0) (e : ReadError) (before now after : R) → ReadsOn reads before now → LeavesReader {A = B} reads fails_to_read now (Err e) after → LeavesReader {A = A} (ReadsOn reads) (FailsOn reads fails_to_read) before (Err e) after
    by_error A B error.NoMemory before now after made left = read_on before now after made left
    by_error A B error.DeviceFailed before now after made left = (now, made, left)

    -- the last read had this error, which is handed on
    pub failed_at_last : {A : Type 0} (B : Type 0) (r : Result A ReadError) (e : ReadError) (before now after : R) → IsErrAnd r (λ x. x ≡ e) → ReadsOn reads before now → LeavesReader {A = B} reads fails_to_read now (Err e) after
        → LeavesReader (ReadsOn reads) (FailsOn reads fails_to_read) before r after
    failed_at_last B (Ok x) e before now after is made left = absurd is
    failed_at_last {A} B (Err x) e before now after is made left = by_error A B x before now after made (subst (λ (y : ReadError). LeavesReader {A = B} reads fails_to_read now (Err y) after) (sym is) left)

    -- memory was refused behind it
    pub refused_at_last : {A : Type 0} (r : Result A ReadError) (before after : R) → IsErrAnd r (λ x. x ≡ error.NoMemory) → ReadsOn reads before after → LeavesReader (ReadsOn reads) (FailsOn reads fails_to_read) before r after
    refused_at_last (Ok x) before after is made = absurd is
    refused_at_last {A} (Err x) before after is made =
        subst (λ (y : ReadError). LeavesReader {A = A} (ReadsOn reads) (FailsOn reads fails_to_read) before (Err y) after) (sym is) made
