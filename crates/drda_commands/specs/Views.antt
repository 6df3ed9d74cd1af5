-- What the judge's own types show.
use Rattle.std.specs.Option.{option_copied}
use Rattle.dss_frames.specs.Group.{command_of}
use Rattle.drda_commands.specs.declared.given.Occurs as rust_occurs
use Rattle.drda_commands.specs.declared.given.Occurs.TheVariants.{Never, Once, Twice}
use Rattle.drda_commands.specs.declared.given.Given as rust_given
use Rattle.drda_commands.specs.declared.judging.Accepted as rust_accepted
use Rattle.drda_commands.specs.declared.texts.Texts as rust_texts
use Rattle.drda_commands.specs.declared.values.DescribedData as rust_data
use Rattle.drda_commands.specs.Given.{Given, Occurs, never, once, twice, contents_of}
use Rattle.drda_commands.specs.Judge.{Accepted}
use Rattle.drda_commands.specs.Texts.{Texts}
use Rattle.drda_commands.specs.Values.{DescribedData}

abbrev pub occurs_of : rust_occurs.Occurs → Occurs
occurs_of Never = never
occurs_of (Once value) = once value.now
occurs_of Twice = twice

abbrev pub given_of : rust_given.Given → Given
given_of given = record { parameters = given.parameters.now; objects = contents_of (command_of given.objects) }

abbrev pub accepted_of : rust_accepted.Accepted → Accepted
accepted_of accepted = record { command = accepted.command; given = given_of accepted.given }

abbrev pub texts_of : rust_texts.Texts → Texts
texts_of texts = record { mixed = option_copied texts.mixed; single = option_copied texts.single }

abbrev pub described_of : rust_data.DescribedData → DescribedData
described_of parts = record { description = option_copied parts.description; values = option_copied parts.values }
