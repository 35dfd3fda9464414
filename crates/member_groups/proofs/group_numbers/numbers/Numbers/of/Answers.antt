use Rattle.round_trip.specs.soundness.mappings.Joined.{prop}
use Rattle.member_groups.specs.joined_groups.Labels.{label_of}
use Rattle.std.proofs.Common.{length}
use Rattle.member_groups.proofs.group_numbers.Labels.{numbered_still}
use Rattle.member_groups.proofs.group_numbers.numbers.Numbers.of.Goals as goal

pub returns : goal.returns
returns c = record {
  labels = c.table_numbers.new.labels.keys;
  unique = c.len.ensures.unique;
  count = c.len.ensures.len;
  props = numbered_still (λ i. label_of c.args.groups.now (prop (record { index = i }))) (length c.args.model.now.props) c.in_ok-props.props
      c.prop_numbers.new.labels.keys c.table_numbers.new.labels.keys c.in_ok-tables.ensures.grown c.in_ok-props.ensures.numbered;
  tables = c.in_ok-tables.ensures.numbered;
}
