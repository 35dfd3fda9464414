use Rattle.worked_examples.proofs.sound_examples.mappings.ShopMapped as mapped
use Rattle.worked_examples.proofs.sound_examples.stores.SoundStores as stores
use Rattle.worked_examples.proofs.sound_examples.models.Shop.{sound}
use Rattle.worked_examples.proofs.sound_examples.shop_is_sound.Goals as goal

pub returns : goal.returns
returns c = record { model = sound; store = stores.shop; schema = mapped.sound }
