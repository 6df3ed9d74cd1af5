-- Who may open the database: the login of the words, or that of a file.
use Rattle.std.specs.Prelude.{◌≡◌, ◌⊎◌, List, ℕ, Option, Some, None, Result, Ok, Err}
use Rattle.command_line.specs.Job.{Login, LoginSource, in_words, in_file, login_in_file, plain_login}
use Rattle.command_line.specs.declared.job.Login.{Login as CodeLogin}
use Rattle.store_files.specs.Files.{FileCalls}
use Rattle.store_files.specs.Stores.{IsOfDevice}
use Rattle.store_files.specs.declared.fault.Fault.{Fault}
use Rattle.store_files.specs.declared.fault.Fault.TheVariants.{BadArguments}

-- a network, and what was written
abbrev pub net_and_out : {N : Type 0} → N → Option (List ℕ) → N × Option (List ℕ)
net_and_out net out = (net, out)

-- the login that a text has, where the words name its file
abbrev pub FindsLogin : LoginSource → List ℕ → Result CodeLogin Fault → Type 0
FindsLogin (in_words login) text (Ok found) = plain_login found ≡ login
FindsLogin (in_words login) text (Err fault) = ⊥
FindsLogin (in_file path) text (Ok found) = Some (plain_login found) ≡ login_in_file text
FindsLogin (in_file path) text (Err fault) = (login_in_file text ≡ None) × (fault ≡ BadArguments)

module _ {F D : Type 0} (calls : FileCalls F D) where
  -- the file is read, where the words name one
  abbrev pub ReadsSource : {T : Type 0} → (T → List ℕ) → LoginSource → F → Result T Fault → F → Type 0
  ReadsSource bytes (in_words login) files (Ok text) files' = files' ≡ files
  ReadsSource bytes (in_words login) files (Err fault) files' = ⊥
  ReadsSource bytes (in_file path) files (Ok text) files' = calls.reads files path (Some (bytes text)) files'
  ReadsSource bytes (in_file path) files (Err fault) files' = calls.reads files path None files' × IsOfDevice fault

  -- the file is not read, or its text is no login
  abbrev pub HasNoLogin : List ℕ → F → Fault → F → Type 0
  HasNoLogin path files fault files' = (calls.reads files path None files' × IsOfDevice fault)
      ⊎ ((text : List ℕ) × calls.reads files path (Some text) files' × (login_in_file text ≡ None) × (fault ≡ BadArguments))

  -- Something is done with the login of the words, or with that of a file, which is read first. Where the file gives none,
  -- that is told, and nothing else is touched.
  abbrev pub LogsIn : {S : Type 0} → LoginSource → F → S → Result (Unit {0}) Fault → F → S → (Login → F → Type 0) → Type 0
  LogsIn (in_words login) files old outcome files' new Goes = Goes login files
  LogsIn (in_file path) files old outcome files' new Goes =
      ((fault : Fault) × (outcome ≡ Err fault) × HasNoLogin path files fault files' × (new ≡ old))
      ⊎ ((login : Login) × (mid : F) × (text : List ℕ) × calls.reads files path (Some text) mid × (Some login ≡ login_in_file text) × Goes login mid)
