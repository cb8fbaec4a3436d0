-- What playing one record promises, in the terms of traces.
pub mod Step
