-- The page stays, and so do all pages.
use Rattle.std.proofs.Common.{Some, ap, sym, ◌∙◌}
use Rattle.std.specs.Prelude.{nat_eq}
use Rattle.std.proofs.lemmas.Map.Steps.{set_value_same}
use Rattle.lru.specs.LruCache.{lru_cache}
use Rattle.row_pages.proofs.cache.judge_at.Goals as goal

pub returns-in-Some : goal.returns-in-Some
returns-in-Some c =
    let page = c.judge.new.self in
    ap (λ es. lru_cache es c.args.pages.now.cap) (set_value_same (nat_eq c.args.at) c.args.pages.now.entries page (sym c.in-Some.ensures.value ∙ ap Some (sym c.judge.ensures)))
