-- The pages of tables stay, through one change and another.
use Rattle.paged_tables.specs.TablesByName.{PagesStay, Tables}

pub pages_rest : (s : Tables) → PagesStay s s
pages_rest s = record { stand = λ file h. h; inside = λ size h. h; apart = λ from end h. h }

pub pages_both : (s t u : Tables) → PagesStay s t → PagesStay t u → PagesStay s u
pages_both s t u a b = record { stand = λ file h. b.stand file (a.stand file h); inside = λ size h. b.inside size (a.inside size h); apart = λ from end h. b.apart from end (a.apart from end h) }
