-- Each table stands on its new pages.
use Rattle.std.proofs.Common.{subst, sym}
use Rattle.paged_tables.specs.Stored.{IsOnPages, LiesInside, LiesOutside}
use Rattle.paged_tables.specs.TablesByName.{AreOnPages, LieInside, LieOutside, Tables}
use Rattle.paged_tables.proofs.Opened.{all_relaid}
use Rattle.paged_tables.proofs.store.PagedTables.relaid.Goals as goal

pub returns-clause-stand : goal.returns-clause-stand
returns-clause-stand c = λ file laid. subst (λ (s : Tables). AreOnPages file s) (sym c.relay.ensures.laid) (all_relaid (IsOnPages file) c.args.pages.items c.args.self.now.tables laid)

pub returns-clause-inside : goal.returns-clause-inside
returns-clause-inside c = λ size laid. subst (λ (s : Tables). LieInside size s) (sym c.relay.ensures.laid) (all_relaid (LiesInside size) c.args.pages.items c.args.self.now.tables laid)

pub returns-clause-apart : goal.returns-clause-apart
returns-clause-apart c = λ from end laid. subst (λ (s : Tables). LieOutside from end s) (sym c.relay.ensures.laid) (all_relaid (LiesOutside from end) c.args.pages.items c.args.self.now.tables laid)
