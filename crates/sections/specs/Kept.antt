-- What a conversation keeps of its statements and queries (DRDA V5 volume 3: PKGNAMCSN, PRPSQLSTT, OPNQRY,
-- QRYINSID).
use Rattle.std.specs.Prelude.{ℕ, Bool, List, Option}
use Rattle.sql_text.specs.declared.tree.Statement.{Statement}
use Rattle.tables.specs.RowList.{RowList}

-- an open cursor: the rows of its query as they were at its opening, how many of them were sent, its instance
-- number, whether it is held over a commit, and the size asked for its last block
pub record Cursor : Type 0 where
  pub rows : RowList
  pub place : ℕ
  pub instance : ℕ
  pub is_held : Bool
  pub block_size : ℕ

-- a section: the statement that was prepared in it, whether WITH HOLD, and its cursor where one is open
pub record Section : Type 0 where
  pub statement : Statement
  pub is_held : Bool
  pub cursor : Option Cursor

-- a statement to be prepared in the section of this name
pub record Preparation : Type 0 where
  pub name : List ℕ
  pub statement : Statement
  pub is_held : Bool

-- a conversation's sections by their names, the statement for which room was made, and how many cursors were
-- opened so far
pub record Sections : Type 0 where
  pub sections : List (List ℕ × Section)
  pub reserved : Option Preparation
  pub openings : ℕ
