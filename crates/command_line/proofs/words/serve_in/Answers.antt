use Rattle.std.proofs.Common.{◌≡◌, ◌∙◌, ap₂, codes}
use Rattle.clap.proofs.WalkLemmas.{first_value-rows}
use Rattle.clap.specs.Words.{first_of, found_of, rows_of}
use Rattle.command_line.specs.Job.{limits_by, options_by, serve_by}
use Rattle.command_line.proofs.words.serve_in.Goals as goal

pub returns : goal.returns
returns c =
    let found = found_of c.args.given.now in
    let limits : c.limits_by.result ≡ limits_by (first_of (codes "login") (rows_of found)) (first_of (codes "cursor-bytes") (rows_of found)) (first_of (codes "all-bytes") (rows_of found)) =
    c.limits_by.ensures
    ∙ ap₂ (λ f x. f x) (ap₂ limits_by (c.get_str-7.ensures ∙ first_value-rows found (codes "login")) (c.get_str-8.ensures ∙ first_value-rows found (codes "cursor-bytes"))) (c.get_str-9.ensures ∙ first_value-rows found (codes "all-bytes")) in
    let options : c.options_by.result ≡ options_by (first_of (codes "count") (rows_of found)) (first_of (codes "idle") (rows_of found)) (limits_by (first_of (codes "login") (rows_of found)) (first_of (codes "cursor-bytes") (rows_of found)) (first_of (codes "all-bytes") (rows_of found))) (first_of (codes "log") (rows_of found)) (first_of (codes "end-when-failed") (rows_of found)) =
    c.options_by.ensures
    ∙ ap₂ (λ f x. f x)
    (ap₂ (λ f x. f x) (ap₂ (λ f x. f x) (ap₂ options_by (c.get_str-5.ensures ∙ first_value-rows found (codes "count")) (c.get_str-6.ensures ∙ first_value-rows found (codes "idle"))) limits) (c.get_str-10.ensures ∙ first_value-rows found (codes "log")))
    (c.get_str-11.ensures ∙ first_value-rows found (codes "end-when-failed")) in
    c.serve_by.ensures ∙ ap₂ (λ f x. f x) (ap₂ (λ f x. f x) (ap₂ (λ f x. f x) (ap₂ serve_by (c.get_str.ensures ∙ first_value-rows found (codes "path")) (c.get_str-2.ensures ∙ first_value-rows found (codes "port"))) (c.get_str-3.ensures ∙ first_value-rows found (codes "user"))) (c.get_str-4.ensures ∙ first_value-rows found (codes "user-file"))) options
