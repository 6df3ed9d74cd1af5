use Rattle.ebcdic_500.specs.declared.table.TheConstants.{CHARACTERS, NONE}
use Rattle.ebcdic_500.specs.CodePage.{char_for}
use Rattle.ebcdic_500.proofs.Pairs.{character_stands, marked, unmarked}
use Rattle.ebcdic_500.proofs.table.char_of.Goals as goal

pub returns-then-character-eq-NONE : goal.returns-then-character-eq-NONE
returns-then-character-eq-NONE c = marked CHARACTERS NONE c.args.byte (char_for c.args.byte) c.if-character-eq-NONE.true (character_stands c.args.byte c.ranges.byte.fits)

pub returns-else-character-eq-NONE : goal.returns-else-character-eq-NONE
returns-else-character-eq-NONE c = unmarked CHARACTERS NONE c.args.byte (char_for c.args.byte) c.if-character-eq-NONE.false (character_stands c.args.byte c.ranges.byte.fits)
