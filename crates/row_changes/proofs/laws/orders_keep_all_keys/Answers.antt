use Rattle.row_changes.proofs.ordering.Ordered.{between_legal, exactly}
use Rattle.row_changes.proofs.laws.orders_keep_all_keys.Goals as goal

pub returns-clause-exactly : goal.returns-clause-exactly
returns-clause-exactly c = exactly

pub returns-clause-legal : goal.returns-clause-legal
returns-clause-legal c = λ store old new both changes difference legal before later is. between_legal store old new both changes difference before later is legal
