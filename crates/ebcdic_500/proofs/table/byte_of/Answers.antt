use Rattle.std.proofs.Common.{sym}
use Rattle.ebcdic_500.specs.declared.table.TheConstants.{BYTES, NO_BYTE}
use Rattle.ebcdic_500.specs.CodePage.{byte_for}
use Rattle.ebcdic_500.proofs.Pairs.{byte_stands, past_ascii, marked, unmarked}
use Rattle.ebcdic_500.proofs.table.byte_of.Goals as goal

pub returns-then-code-ge128 : goal.returns-then-code-ge128
returns-then-code-ge128 c = sym (past_ascii c.args.character c.if-code-ge128.true)

pub returns-then-byte-eq-NO_BYTE : goal.returns-then-byte-eq-NO_BYTE
returns-then-byte-eq-NO_BYTE c = marked BYTES NO_BYTE c.args.character (byte_for c.args.character) c.if-byte-eq-NO_BYTE.true (byte_stands c.args.character c.if-code-ge128.false)

pub returns-else-byte-eq-NO_BYTE : goal.returns-else-byte-eq-NO_BYTE
returns-else-byte-eq-NO_BYTE c = unmarked BYTES NO_BYTE c.args.character (byte_for c.args.character) c.if-byte-eq-NO_BYTE.false (byte_stands c.args.character c.if-code-ge128.false)
