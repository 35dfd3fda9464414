-- Views that are made of a mapping are its views.
use Rattle.table_owners.specs.Places.{TellPlaces}
use Rattle.table_owners.specs.declared.places.LinkPlace.{LinkPlace}
use Rattle.std.proofs.Common.{List}
use Rattle.regions.specs.Basis.{Basis}
use Rattle.regions.specs.region_laws.IsBasis.{IsBasis}
use Rattle.update_views.specs.declared.views.UpdateViews.{UpdateViews}
use Rattle.update_views.specs.Making.{AreJoinedRows, AreSetViews}
use Rattle.update_views.specs.Views.{AreViewsOf}
use Rattle.update_views.proofs.Held.{local_there}
use Rattle.update_views.proofs.Within.{local_within}
use Rattle.update_views.proofs.Joined.{joined_there, joined_within, none_there}

pub made_views : (basis : Basis) → IsBasis basis → (places : List LinkPlace) → TellPlaces basis.schema places → (views : UpdateViews)
    → AreSetViews basis views.sets → AreJoinedRows basis places views.joined → AreViewsOf basis views
made_views basis is places tell views sets joined = record {
  fills = record {
    entities = λ s region listed entity links holds. local_there basis is s region listed entity links holds views sets;
    links = joined_there basis is places tell views joined;
    others = none_there basis is places tell views joined;
  };
  tables = λ s entity links. local_within basis entity links views sets s;
  link_tables = joined_within basis is places tell views joined;
}
