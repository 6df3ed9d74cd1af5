-- What holds of every command, and of commands one after the other, whoever is asked.
use Rattle.std.specs.Prelude.{◌≡◌, ◌⊎◌, ℕ, ◌+◌, Bool, true, false, not, ◌&&◌, List, [], ◌∷◌, ◌++◌, Ok, Err, Result, if◌then◌else◌}
use Rattle.std.specs.Int.{w16, to_be_bytes}
use Rattle.ddm_objects.specs.declared.code_point.TheConstants.{SVRCOD, SQLCARD, SQLDARD, QRYDSC, QRYDTA}
use Rattle.ddm_objects.specs.Writing.{Trees, NoTrees, Scalar, Container, text_of}
use Rattle.dss_frames.specs.Dss.{Dss}
use Rattle.dss_frames.specs.Writing.{written}
use Rattle.core_calls.specs.Call.{Call}
use Rattle.core_calls.specs.Answer.{Answer}
use Rattle.drda_commands.specs.declared.refusal.Refusal.{Refusal}
use Rattle.drda_commands.specs.declared.stage.Stage.TheVariants.{Opened}
use Rattle.drda_commands.specs.declared.table.Command.{Command}
use Rattle.drda_commands.specs.declared.table.Command.TheVariants.{Excsat, Accsec, Secchk, Accrdb}
use Rattle.drda_commands.specs.Given.{contents_of}
use Rattle.drda_commands.specs.Judge.{Accepted, judged}
use Rattle.command_kit.specs.Reply.{agent_failed}
use Rattle.session_commands.specs.declared.session.Session.{Session}
use Rattle.session_commands.specs.Replies.{secchkrm}
use Rattle.session_commands.specs.Settings.{Settings}
use Rattle.conversation.specs.Exchange.{goes_on}
use Rattle.conversation.specs.Standing.{Standing, beginning}
use Rattle.conversation.specs.Done.{Does, DoesAll}
use Rattle.conversation.specs.Usable.{is_usable}

-- what becomes of the command in this request DSS and these object DSSs, when it comes
abbrev pub verdict : Session → Dss → List Dss → Result Accepted Refusal
verdict session request objects = judged session.stage session.agreed.unicode request.contents (contents_of objects)

-- each of these commands says that another one of its chain follows
abbrev pub AllGoOn : List (List Dss) → Type 0
AllGoOn [] = Unit {0}
AllGoOn (command ∷ commands) = (goes_on command ≡ true) × AllGoOn commands

-- the command is a SECCHK, and is answered by SECCHKRM with code 00
pub record ChecksTheUser (session : Session) (command : List Dss) (bytes : List ℕ) : Type 0 where
  pub request : Dss
  pub objects : List Dss
  pub command_is : command ≡ request ∷ objects
  pub accepted : Accepted
  pub judged_is : verdict session request objects ≡ Ok accepted
  pub is_secchk : accepted.command ≡ Secchk
  pub format : ℕ
  pub answer : bytes ≡ written format request.correlator (secchkrm 0).text

-- ---- what is sent (DRDA V5 volume 3, DSS)

-- the objects whose data are no objects: an SQLCA, a description of columns or parameters, one of rows, and rows
pub data Values : Type 0 where
  Card : Values
  Description : Values
  RowsDescription : Values
  Rows : Values

abbrev pub code_point : Values → ℕ
code_point Card = SQLCARD
code_point Description = SQLDARD
code_point RowsDescription = QRYDSC
code_point Rows = QRYDTA

-- One object that is sent: a reply message, with its severity before the trees of its other parameters; a
-- container with trees of objects in it; or one of those, with its data.
pub data SentObject : Type 0 where
  SentMessage : ℕ → ℕ → Trees → SentObject
  SentContainer : ℕ → Trees → SentObject
  SentValues : Values → List ℕ → SentObject

abbrev pub tree_of : SentObject → Trees
tree_of (SentMessage code severity others) = Container code (Scalar SVRCOD (to_be_bytes w16 severity) others) NoTrees
tree_of (SentContainer code inside) = Container code inside NoTrees
tree_of (SentValues kind bytes) = Scalar (code_point kind) bytes NoTrees

-- the type of its DSS: 2, a reply message, or 3, an object
abbrev pub type_of : SentObject → ℕ
type_of (SentMessage code severity others) = 2
type_of object = 3

-- The chain's bits before these others of its command: another DSS follows (40), and it has the same correlator
-- (10). Behind the last one is what belongs to the next command, if to any.
abbrev pub bits_before : Bool → List SentObject → ℕ
bits_before is_chained [] = if is_chained then 0x40 else 0
bits_before is_chained (object ∷ others) = 0x50

-- each in a DSS of its own, one after the other, as a DSS is written
abbrev pub sent_bytes : ℕ → Bool → List SentObject → List ℕ
sent_bytes correlator is_chained [] = []
sent_bytes correlator is_chained (object ∷ others) =
    written (bits_before is_chained others + type_of object) correlator (text_of (tree_of object)) ++ sent_bytes correlator is_chained others

-- The bytes are DSSs of this correlator one after the other, and the contents of each are one object. That they
-- read back is a law of the writers (`written_dss_is_read`, `nesting_reads_back`).
abbrev pub AreSentObjects : ℕ → Bool → List ℕ → Type 0
AreSentObjects correlator is_chained bytes = (objects : List SentObject) × (bytes ≡ sent_bytes correlator is_chained objects)

-- they are one DSS, and its contents are a container
pub record IsOneTree (bytes : List ℕ) : Type 0 where
  pub format : ℕ
  pub correlator : ℕ
  pub code : ℕ
  pub inside : Trees
  pub bytes_are : bytes ≡ written format correlator (text_of (Container code inside NoTrees))

-- a command that comes before those of SQL
abbrev pub is_access : Command → Bool
is_access Excsat = true
is_access Accsec = true
is_access Secchk = true
is_access Accrdb = true
is_access command = false

-- it is refused, or one of these
abbrev pub asks_nothing : Result Accepted Refusal → Bool
asks_nothing (Ok accepted) = is_access accepted.command
asks_nothing (Err refusal) = true

module _ {A : Type 0} (asks : A → Call → Answer → A → Type 0) where
  -- What a command closes a conversation by is AGNPRMRM, its one reply, in no chain.
  abbrev pub OnlyFailureCloses : Type 0
  OnlyFailureCloses =
      (settings : Settings) (s next : Standing A) (command : List Dss) (bytes : List ℕ)
      → Does asks settings s command bytes next → next.session.is_closed ≡ true → (correlator : ℕ) × (bytes ≡ written 2 correlator agent_failed.text)

  -- a call, and an answer to it that its command can't use
  pub record AskedInVain (old new : A) : Type 0 where
    pub call : Call
    pub answer : Answer
    pub asked : asks old call answer new
    pub unusable : is_usable call answer ≡ false

  -- A command that closes a conversation has asked, and can't use the answer.
  abbrev pub OnlyUnusableAnswersClose : Type 0
  OnlyUnusableAnswersClose =
      (settings : Settings) (s next : Standing A) (command : List Dss) (bytes : List ℕ)
      → Does asks settings s command bytes next → next.session.is_closed ≡ true → AskedInVain s.asked next.asked

  -- A refused command leaves the stage, what was agreed on and what is kept for statements, and asks nothing.
  pub record LeavesAllElse (s next : Standing A) : Type 0 where
    pub stage : next.session.stage ≡ s.session.stage
    pub agreed : next.session.agreed ≡ s.session.agreed
    pub statements : next.statements ≡ s.statements
    pub unasked : next.asked ≡ s.asked

  abbrev pub RefusalsKeepTheStage : Type 0
  RefusalsKeepTheStage =
      (settings : Settings) (s next : Standing A) (request : Dss) (objects : List Dss) (refusal : Refusal) (bytes : List ℕ)
      → verdict s.session request objects ≡ Err refusal → Does asks settings s (request ∷ objects) bytes next → LeavesAllElse s next

  -- Nothing is asked, and nothing is kept for statements, before the database is opened.
  abbrev pub AsksOnlyWhenOpened : Type 0
  AsksOnlyWhenOpened =
      (settings : Settings) (s next : Standing A) (command : List Dss) (bytes : List ℕ)
      → Does asks settings s command bytes next → (s.session.stage ≡ Opened) ⊎ ((next.asked ≡ s.asked) × (next.statements ≡ s.statements))

  -- ---- broken chains

  -- A broken chain sends nothing, asks nothing and changes nothing up to its end, which mends it: its commands
  -- are read and not done, also where memory is wanting.
  pub record BrokenChainsAreSilent : Type 0 where
    pub before_its_end : (settings : Settings) (s last : Standing A) (commands : List (List Dss)) (bytes : List ℕ)
        → s.session.is_broken ≡ true → AllGoOn commands → DoesAll asks settings s commands bytes last → (bytes ≡ []) × (last ≡ s)
    pub at_its_end : (settings : Settings) (s next : Standing A) (request : Dss) (objects : List Dss) (bytes : List ℕ)
        → s.session.is_broken ≡ true → goes_on (request ∷ objects) ≡ false → Does asks settings s (request ∷ objects) bytes next
        → (bytes ≡ []) × (next ≡ record s { session = record s.session { is_broken = false } })

  -- ---- who is connected

  -- among these commands, which are answered by these bytes, is one that checks the user
  pub record HasCheckedTheUser (settings : Settings) (first : Standing A) (commands : List (List Dss)) (bytes : List ℕ) : Type 0 where
    pub before : List (List Dss)
    pub check : List Dss
    pub after : List (List Dss)
    pub commands_are : commands ≡ before ++ (check ∷ after)
    pub at : Standing A
    pub replies : List ℕ
    pub answer : List ℕ
    pub others : List ℕ
    pub done : DoesAll asks settings first before replies at
    pub checks : ChecksTheUser at.session check answer
    pub bytes_are : bytes ≡ replies ++ (answer ++ others)

  -- the database is opened only behind a check of the user
  abbrev pub OpenedBehindACheck : Type 0
  OpenedBehindACheck =
      (settings : Settings) (asked : A) (last : Standing A) (commands : List (List Dss)) (bytes : List ℕ)
      → DoesAll asks settings (beginning asked) commands bytes last → last.session.stage ≡ Opened → HasCheckedTheUser settings (beginning asked) commands bytes

  -- ---- what is sent

  -- What is sent for a command, whichever it is and whatever becomes of it, is DSSs of one object each, with the
  -- correlator of its request. The last of them is chained to what follows where the command is and its chain is
  -- not broken.
  abbrev pub RepliesAreTrees : Type 0
  RepliesAreTrees =
      (settings : Settings) (s next : Standing A) (request : Dss) (objects : List Dss) (bytes : List ℕ)
      → Does asks settings s (request ∷ objects) bytes next
      → AreSentObjects request.correlator (goes_on (request ∷ objects) && not next.session.is_broken) bytes

  -- For one that is refused, or comes before those of SQL, it is nothing or one DSS with one container.
  abbrev pub FirstRepliesAreOneTree : Type 0
  FirstRepliesAreOneTree =
      (settings : Settings) (s next : Standing A) (request : Dss) (objects : List Dss) (bytes : List ℕ)
      → asks_nothing (verdict s.session request objects) ≡ true → Does asks settings s (request ∷ objects) bytes next → (bytes ≡ []) ⊎ IsOneTree bytes
