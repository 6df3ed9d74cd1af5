use Rattle.key_map.proofs.field.+field_at.Given as goal

abbrev pub decreases-field_at : goal.decreases-field_at
decreases-field_at l = l.place
