use Rattle.drda_words.proofs.Bytes.{front_are_bytes, rest_are_bytes}
use Rattle.drda_words.proofs.laws.parts_are_bytes.Goals as goal

pub returns : goal.returns
returns c front rest all = (front_are_bytes front rest all, rest_are_bytes front rest all)
