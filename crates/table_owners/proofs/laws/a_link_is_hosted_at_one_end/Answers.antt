use Rattle.table_owners.proofs.ownership.OneEnd.{one_end}
use Rattle.table_owners.proofs.laws.a_link_is_hosted_at_one_end.Goals as goal

pub returns : goal.returns
returns c = record { one_end = λ schema fragment sound has first. one_end schema fragment sound has first }
