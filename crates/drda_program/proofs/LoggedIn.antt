-- What is done with a login, wherever it stands.
use Rattle.std.proofs.Common.{◌≡◌, ◌∙◌, refl, sym, ap, subst, inl, inr, ℕ, List, Result, Ok, Err}
use Rattle.command_line.specs.Job.{Login, LoginSource, in_words, in_file, login_in_file, plain_login}
use Rattle.command_line.specs.declared.job.Login.{Login as CodeLogin}
use Rattle.store_files.specs.Files.{FileCalls}
use Rattle.drda_program.specs.LoggingIn.{FindsLogin, LogsIn, ReadsSource}
use Rattle.store_files.specs.declared.fault.Fault.{Fault}

module _ {F D S T : Type 0} (calls : FileCalls F D) (bytes : T → List ℕ) (files mid : F) where
  -- the file is not read
  pub not_read : (source : LoginSource) (old : S) (fault : Fault) (outcome : Result (Unit {0}) Fault) (Goes : Login → F → Type 0) → outcome ≡ Err fault
      → ReadsSource calls bytes source files (Err fault) mid → LogsIn calls source files old outcome mid old Goes
  not_read (in_words login) old fault outcome Goes is reads = absurd reads
  not_read (in_file path) old fault outcome Goes is reads = inl (fault, is, inl reads, refl)

  module _ (text : T) (said : List ℕ) (read : said ≡ bytes text) where
    -- its text is no login
    pub no_login : (source : LoginSource) (old : S) (fault : Fault) (outcome : Result (Unit {0}) Fault) (Goes : Login → F → Type 0) → outcome ≡ Err fault
        → ReadsSource calls bytes source files (Ok text) mid → FindsLogin source said (Err fault) → LogsIn calls source files old outcome mid old Goes
    no_login (in_words login) old fault outcome Goes is reads finds = absurd finds
    no_login (in_file path) old fault outcome Goes is reads finds = inl (fault, is, inr (bytes text, reads, ap login_in_file (sym read) ∙ finds.0, finds.1), refl)

    pub logged : (source : LoginSource) (old new : S) (login : CodeLogin) (outcome : Result (Unit {0}) Fault) (last : F) (Goes : Login → F → Type 0)
        → ReadsSource calls bytes source files (Ok text) mid → FindsLogin source said (Ok login) → Goes (plain_login login) mid → LogsIn calls source files old outcome last new Goes
    logged (in_words login) old new found outcome last Goes reads finds goes =
        subst (λ (l : Login). Goes l files) finds (subst (λ (f : F). Goes (plain_login found) f) reads goes)
    logged (in_file path) old new found outcome last Goes reads finds goes = inr (plain_login found, mid, bytes text, reads, finds ∙ ap login_in_file read, goes)
