use Rattle.std.proofs.Common.{rules, string_bytes}
use Rattle.command_line.specs.Job.{plain_source}
use Rattle.drda_program.proofs.LoggedIn.{logged, no_login, not_read}
use Rattle.drda_program.proofs.logins.serve.Goals as goal

pub returns-in_err-text : goal.returns-in_err-text
returns-in_err-text g c = not_read g.F.StoreFiles.calls string_bytes c.args.files.now c.read_source.new.files (plain_source c.args.source) _ c.in_err-text.field-0.0 _ _ (search rules) c.in_err-text.ensures

pub returns-in_err-login : goal.returns-in_err-login
returns-in_err-login g c = no_login g.F.StoreFiles.calls string_bytes c.args.files.now c.read_source.new.files c.in_ok-text.text _ (search rules) (plain_source c.args.source) _ c.in_err-login.field-0.0 _ _ (search rules) c.in_ok-text.ensures c.in_err-login.ensures

pub returns : goal.returns
returns g c = logged g.F.StoreFiles.calls string_bytes c.args.files.now c.read_source.new.files c.in_ok-text.text _ (search rules) (plain_source c.args.source) _ _ c.in_ok-login.login _ _ _ c.in_ok-text.ensures c.in_ok-login.ensures c.serve_file.ensures
