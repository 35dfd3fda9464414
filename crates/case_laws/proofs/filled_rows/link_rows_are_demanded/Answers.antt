use Rattle.case_laws.proofs.filled_rows.Links.{demanded_links}
use Rattle.case_laws.proofs.filled_rows.link_rows_are_demanded.Goals as goal

pub returns : goal.returns
returns c basis is state legal no_clash t fragment assoc joined link stands = demanded_links basis is state legal no_clash t fragment assoc joined link stands
