use Rattle.msl_fragments.proofs.msl_sound.a_mapping_that_breaks_no_rule_is_sound.Goals as goal

pub returns : goal.returns
returns c = record {
  sound = λ model store raw keeps. record {
    model = keeps.sound_model;
    store = keeps.sound_store;
    mapping = record {
      fragments = c.kept_fragments_are_sound.ensures.sound model store raw keeps;
      link_ids = c.kept_links_are_sound.ensures.ids model store raw keeps;
      links = c.kept_links_are_sound.ensures.sound model store raw keeps;
      places = c.fragments_stand_apart.ensures.places model store raw keeps.few;
      assocs = c.kept_links_are_sound.ensures.once model store raw keeps;
      pairings = c.kept_tables_have_one_owner.ensures.pairings model store raw keeps;
      owners = c.kept_tables_have_one_owner.ensures.owners model store raw keeps;
    };
  };
}
